-- The stages of a plan, taken from its last radix on.
use Rattle.std.proofs.Common.{◌≡◌, ℕ, ◌+◌, ◌-◌, ◌*◌, ◌%◌, ◌^◌, ◌<◌, ◌≤◌, List, [], ◌∷◌, length, get_or, drop, reverse, sym, ap, ◌∙◌, mul_comm, mul-le-mul_left, mul-zero, mul-add, arith}
use Rattle.std.proofs.lemmas.List.{at_drop_more, drop_all, get_or_default, get_or-reverse, length-reverse}
use Rattle.arithmetic.specs.Meaning.{Meaning}
use Rattle.arithmetic.proofs.Divisors.{divides_trans}
use Rattle.plan.specs.Radices.{size, radix_sum, turns, largest_size, Plan}
use Rattle.plan.proofs.Sizes.{plan_drop, plan_size_positive, size_drop_divides, radix_sum_drop_le, turns_le}
use Rattle.spectra.specs.Stages.{staged, stages}
use Rattle.spectrum.specs.Shapes.{Sound}
use Rattle.spectra.proofs.Recursion.{stages_end, stages_more}

-- a function of what is left of a list, one step back
pub at_drop_back : {X Y : Type 0} (F : List X → Y) (xs : List X) (k : ℕ) (d : X) → 0 < k → k ≤ length xs → F (get_or xs (k - 1) d ∷ drop k xs) ≡ F (drop (k - 1) xs)
at_drop_back F xs k d low h =
    let back : k - 1 + 1 ≡ k = omega arith in
    sym (at_drop_more F xs (k - 1) d (omega arith) ∙ ap (λ i. F (get_or xs (k - 1) d ∷ drop i xs)) back)

-- the stage of the radix before k, where those from k on have the product len
module _ {rs : List ℕ} (p : Plan rs) (k len : ℕ) (low : 0 < k) (h : k ≤ length rs) (parts : len ≡ size (drop k rs)) where
  pub block_size : get_or rs (k - 1) 0 * len ≡ size (drop (k - 1) rs)
  block_size = ap (λ x. get_or rs (k - 1) 0 * x) parts ∙ at_drop_back size rs k 0 low h

  pub block_divides : size rs % (get_or rs (k - 1) 0 * len) ≡ 0
  block_divides = ap (λ x. size rs % x) block_size ∙ size_drop_divides rs (k - 1)

  pub block_small : get_or rs (k - 1) 0 * len ≤ largest_size
  block_small = omega (arith, block_size, (plan_drop rs (k - 1) p).small)

-- the turns of n elements under the radices from k on, and one radix more
pub turned_more : (rs : List ℕ) (k n made : ℕ) → 0 < k → k ≤ length rs → made ≡ n * radix_sum (drop k rs) → made + n * get_or rs (k - 1) 0 ≡ n * radix_sum (drop (k - 1) rs)
turned_more rs k n made low h turned =
    let r = get_or rs (k - 1) 0 in
    let all : n * (r + radix_sum (drop k rs)) ≡ n * radix_sum (drop (k - 1) rs) = ap (λ x. n * x) (at_drop_back radix_sum rs k 0 low h) in
    omega (arith, turned, mul-add n r (radix_sum (drop k rs)))

pub turned_fits : {rs : List ℕ} → Plan rs → (k n : ℕ) → n ≡ size rs → n * radix_sum (drop k rs) < 2 ^ 64
turned_fits {rs} p k n whole =
    let less : n * radix_sum (drop k rs) ≤ n * radix_sum rs = mul-le-mul_left n (radix_sum_drop_le rs k) in
    let all : n * radix_sum rs ≡ turns rs = ap (λ x. x * radix_sum rs) whole in
    omega (arith, turns_le rs p)

-- the stages of the last n radices are done, and made so many turns
pub record Done {A R : Type 0} (m : Meaning A R) (rs : List ℕ) (n len made : ℕ) (before after : List A) : Type 0 where
  pub parts : len ≡ size (drop (length rs - n) rs)
  pub so_far : after ≡ stages m (drop (length rs - n) rs) before
  pub turned : made ≡ length before * radix_sum (drop (length rs - n) rs)

-- the radix r comes next
pub record Next (rs : List ℕ) (n r : ℕ) : Type 0 where
  pub left : n < length rs
  pub is : r ≡ get_or rs (length rs - n - 1) 0

pub next_from_end : (rs : List ℕ) (n r : ℕ) → (n < length (reverse rs)) × (r ≡ get_or (reverse rs) n r) → Next rs n r
next_from_end rs n r t =
    let low : n < length rs = omega (arith, t.0, length-reverse rs) in
    let at : length rs - 1 - n ≡ length rs - n - 1 = omega arith in
    record {
      left = low;
      is = t.1 ∙ get_or-reverse rs n r low ∙ get_or_default rs (length rs - 1 - n) r 0 (omega arith) ∙ ap (λ i. get_or rs i 0) at;
    }

module _ {A R : Type 0} (m : Meaning A R) {rs : List ℕ} where
  pub none_done : (before : List A) → Done m rs 0 1 0 before before
  none_done before =
      let none : [] ≡ drop (length rs - 0) rs = sym (drop_all (length rs - 0) rs (omega arith)) in
      record {
        parts = ap size none;
        so_far = stages_end m before ∙ ap (λ x. stages m x before) none;
        turned = sym (mul-zero (length before)) ∙ ap (λ x. length before * radix_sum x) none;
      }

  module _ (p : Plan rs) {n r len made : ℕ} {before after : List A} (done : Done m rs n len made before after) (next : Next rs n r) where
    low : 0 < length rs - n
    low = let left = next.left in omega arith

    within : length rs - n ≤ length rs
    within = omega arith

    pub next_sound : 0 < m.span → m.span % size rs ≡ 0 → Sound m.span r len
    next_sound circle divides =
        let k = length rs - n in
        let radix = p.each (k - 1) (omega (arith, low)) in
        let small = block_small p k len low within done.parts in
        let is = next.is in
        rw is (record {
          circle = circle;
          some = omega arith;
          few = omega arith;
          parts = omega (arith, done.parts, plan_size_positive (drop k rs) (plan_drop rs k p));
          size = omega arith;
          divides = divides_trans (get_or rs (k - 1) 0 * len) (size rs) m.span (block_divides p k len low within done.parts) divides;
        })

    pub next_whole : size rs % (r * len) ≡ 0
    next_whole = let is = next.is in rw is (block_divides p (length rs - n) len low within done.parts)

    -- one stage more, which makes t turns
    pub next_turned : (t : ℕ) → t ≡ length before * r → made + t ≡ length before * radix_sum (drop (length rs - n - 1) rs)
    next_turned t turns =
        ap (λ x. made + x) (turns ∙ ap (λ x. length before * x) next.is)
        ∙ turned_more rs (length rs - n) (length before) made low within done.turned

    pub next_fits : (t : ℕ) → t ≡ length before * r → length before ≡ size rs → made + t < 2 ^ 64
    next_fits t turns whole =
        omega (arith, next_turned t turns, turned_fits p (length rs - n - 1) (length before) whole)

    pub next_done : (count t : ℕ) → count ≡ n + 1 → t ≡ length before * r → (ys : List A) → ys ≡ staged m r len after → Done m rs count (len * r) (made + t) before ys
    next_done count t more turns ys is =
        let k = length rs - n in
        let left = next.left in
        let back : k - 1 ≡ length rs - count = omega arith in
        let x = get_or rs (k - 1) 0 in
        let rest = drop k rs in
        let parts : len * r ≡ size (drop (k - 1) rs) = ap (λ y. len * y) next.is ∙ mul_comm len x ∙ block_size p k len low within done.parts in
        let so_far : ys ≡ stages m (drop (k - 1) rs) before =
        is ∙ ap (λ y. staged m y len after) next.is ∙ ap (λ y. staged m x y after) done.parts ∙ ap (staged m x (size rest)) done.so_far
        ∙ stages_more m x rest before ∙ at_drop_back (λ y. stages m y before) rs k 0 low within in
        record {
          parts = parts ∙ ap (λ i. size (drop i rs)) back;
          so_far = so_far ∙ ap (λ i. stages m (drop i rs) before) back;
          turned = next_turned t turns ∙ ap (λ i. length before * radix_sum (drop i rs)) back;
        }

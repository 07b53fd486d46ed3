-- Dealing sample by sample.
--
-- The digits of a place stand in the other order, so that the place of the next sample counts up from the front:
-- one more at the first radix that has one more, and nothing at those before it.
use Rattle.std.proofs.Common.{◌≡◌, ℕ, ◌+◌, ◌-◌, ◌*◌, ◌/◌, ◌%◌, ◌<◌, ◌≤◌, cond, ltb, List, [], ◌∷◌, length, get_or, drop, set, sym, refl, ap, ◌∙◌, ⊎_elim, mul-le-mul_right, div-le_self, arith, below_more}
use native.Mathlib.Nat.{zero-mod, zero-div, mul-div_right}
use Rattle.std.proofs.lemmas.List.{get_or-set_same, get_or-set_other, at_drop_more, at_drop_all}
use Rattle.std.proofs.lemmas.Nat.{div-add-mod', div-mul-add, mod-mul-add, mod_below}
use Rattle.std.proofs.lemmas.Bool.{cases_lt, cond-true, cond-false, lt-ltb, le-ltb}
use Rattle.plan.specs.Radices.{size, Each}
use Rattle.plan.specs.Dealing.{place}
use Rattle.plan.proofs.Sizes.{each_tail, size_positive, size_drop_le}
use Rattle.plan.proofs.Places.{place_below, place_injective}

-- the place after a place
abbrev pub next : List ℕ → ℕ → ℕ
next [] at = at
next (r ∷ rs) at = cond (ltb (at + size rs) (r * size rs)) (at + size rs) (next rs (at - (r * size rs - size rs)))

pub place_zero : (rs : List ℕ) → place rs 0 ≡ 0
place_zero [] = refl
place_zero (r ∷ rs) =
    ap (λ x. x * size rs + place rs (0 / r)) (zero-mod r) ∙ ap (λ x. 0 * size rs + place rs x) (zero-div r) ∙ omega (arith, place_zero rs)

-- the first digit goes up, or the others do and it begins again
module _ (r : ℕ) (rs : List ℕ) (i : ℕ) where
  digit_up : i % r + 1 < r → place (r ∷ rs) i + size rs ≡ place (r ∷ rs) (i + 1)
  digit_up more =
      let on : (i / r) * r + (i % r + 1) ≡ i + 1 = omega (arith, div-add-mod' i r) in
      let digit : (i + 1) % r ≡ i % r + 1 = ap (λ x. x % r) (sym on) ∙ mod-mul-add (i / r) r (i % r + 1) more in
      let others : (i + 1) / r ≡ i / r = ap (λ x. x / r) (sym on) ∙ div-mul-add (i / r) r (i % r + 1) more in
      let one : i % r * size rs + size rs ≡ (i % r + 1) * size rs = omega arith in
      sym (ap (λ x. x * size rs + place rs ((i + 1) / r)) digit ∙ ap (λ x. (i % r + 1) * size rs + place rs x) others ∙ omega arith)

  digit_over : 0 < r → i % r + 1 ≡ r → place rs (i / r + 1) ≡ place (r ∷ rs) (i + 1)
  digit_over some last =
      let on : (i / r + 1) * r + 0 ≡ i + 1 = omega (arith, div-add-mod' i r) in
      let digit : (i + 1) % r ≡ 0 = ap (λ x. x % r) (sym on) ∙ mod-mul-add (i / r + 1) r 0 some in
      let others : (i + 1) / r ≡ i / r + 1 = ap (λ x. x / r) (sym on) ∙ div-mul-add (i / r + 1) r 0 some in
      sym (ap (λ x. x * size rs + place rs ((i + 1) / r)) digit ∙ ap (λ x. 0 * size rs + place rs x) others ∙ omega arith)

pub next_place : (rs : List ℕ) → Each rs → (i : ℕ) → next rs (place rs i) ≡ place rs (i + 1)
next_place [] each i = refl
next_place (r ∷ rs) each i =
    let len = size rs in
    let q = i % r in
    let at = q * len + place rs (i / r) in
    let rest = each_tail r rs each in
    let some : 0 < r = omega (arith, each 0 (omega arith)) in
    let low : q < r = mod_below i r some in
    let below : place rs (i / r) < len = place_below rs (size_positive rs rest) (i / r) in
    ⊎_elim
    (λ more.
    let room : (q + 2) * len ≤ r * len = mul-le-mul_right len (omega arith) in
    cond-true _ _ _ (lt-ltb (at + len) (r * len) (omega arith)) ∙ digit_up r rs i more)
    (λ last.
    let end : q + 1 ≡ r = omega arith in
    let full : (q + 1) * len ≡ r * len = ap (λ x. x * len) end in
    let left : at - (r * len - len) ≡ place rs (i / r) = omega arith in
    cond-false _ _ _ (le-ltb (at + len) (r * len) (omega arith))
    ∙ ap (next rs) left ∙ next_place rs rest (i / r) ∙ digit_over r rs i some end)
    (cases_lt (q + 1) r)

-- the radices before k begin again, and at counts on in a block of those from k on
pub record Carried (rs : List ℕ) (start k block at : ℕ) : Type 0 where
  pub whole : block ≡ size (drop k rs)
  pub within : at < block
  pub onward : next (drop k rs) at ≡ next rs start

module _ {rs : List ℕ} (each : Each rs) {start k block at : ℕ} (c : Carried rs start k block at) where
  pub block_le : block ≤ size rs
  block_le = omega (arith, c.whole, size_drop_le rs k (size_positive rs each))

  module _ (h : k < length rs) where
    part_whole : block / get_or rs k 0 ≡ size (drop (k + 1) rs)
    part_whole =
        let some : 0 < get_or rs k 0 = omega (arith, each k h) in
        ap (λ x. x / get_or rs k 0) (c.whole ∙ at_drop_more size rs k 0 h) ∙ mul-div_right (size (drop (k + 1) rs)) some

    step : cond (ltb (at + block / get_or rs k 0) block) (at + block / get_or rs k 0) (next (drop (k + 1) rs) (at - (block - block / get_or rs k 0))) ≡ next rs start
    step =
        let len = size (drop (k + 1) rs) in
        let all : block ≡ get_or rs k 0 * len = c.whole ∙ at_drop_more size rs k 0 h in
        ap (λ x. cond (ltb (at + x) block) (at + x) (next (drop (k + 1) rs) (at - (block - x)))) part_whole
        ∙ ap (λ x. cond (ltb (at + len) x) (at + len) (next (drop (k + 1) rs) (at - (x - len)))) all
        ∙ sym (at_drop_more (λ x. next x at) rs k 0 h) ∙ c.onward

    pub counts_up : at + block / get_or rs k 0 < block → at + block / get_or rs k 0 ≡ next rs start
    counts_up more = sym (cond-true _ _ _ (lt-ltb (at + block / get_or rs k 0) block more)) ∙ step

    pub carries_on : block ≤ at + block / get_or rs k 0 → Carried rs start (k + 1) (block / get_or rs k 0) (at - (block - block / get_or rs k 0))
    carries_on last =
        let low = c.within in
        let less : block / get_or rs k 0 ≤ block = div-le_self block (get_or rs k 0) in
        record {
          whole = part_whole;
          within = omega arith;
          onward = sym (cond-false _ _ _ (le-ltb (at + block / get_or rs k 0) block last)) ∙ step;
        }

  pub carried_out : k ≡ length rs → at ≡ next rs start
  carried_out end = sym (at_drop_all (λ x. next x at) rs k (omega arith)) ∙ c.onward

-- the first n samples at their places, and one more
pub dealt_more : {A : Type 0} (d : A) (rs : List ℕ) → 0 < size rs → (samples out : List A) (n at : ℕ) (x : A) → n < size rs → length out ≡ size rs → at ≡ place rs n → x ≡ get_or samples n d → ((k : ℕ) → k < n → get_or out (place rs k) d ≡ get_or samples k d) → (k : ℕ) → k < n + 1 → get_or (set out at x) (place rs k) d ≡ get_or samples k d
dealt_more d rs some samples out n at x h long is read before =
    let within : at < length out = omega (arith, place_below rs some n) in
    below_more (λ k. get_or (set out at x) (place rs k) d ≡ get_or samples k d) n
    (λ k l. get_or-set_other out at (place rs k) x d (λ e. let same = place_injective rs some k n (omega arith) h (e ∙ is) in omega arith) ∙ before k l)
    (ap (λ p. get_or (set out at x) p d) (sym is) ∙ get_or-set_same out at x d within ∙ read)

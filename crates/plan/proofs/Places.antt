-- Where a sample goes and which sample comes to a place are each other's inverse.
use Rattle.std.proofs.Common.{◌≡◌, ℕ, ◌+◌, ◌*◌, ◌/◌, ◌%◌, ◌<◌, ◌≤◌, List, [], ◌∷◌, length, get_or, drop, sym, ap, ◌∙◌, mul_assoc, add-mul, arith}
use Rattle.std.proofs.lemmas.List.{at_drop_more, at_drop_all}
use Rattle.std.proofs.lemmas.Nat.{div-add-mod', div-mul-add, mod-mul-add, div_below, mod_below, mul-add-lt, mul-le}
use Rattle.plan.specs.Radices.{size, largest_size, Plan}
use Rattle.plan.specs.Dealing.{place, source}
use Rattle.plan.proofs.Sizes.{left_positive, right_positive, plan_size_positive, plan_drop}

pub place_below : (rs : List ℕ) → 0 < size rs → (n : ℕ) → place rs n < size rs
place_below [] pos n = omega arith
place_below (r ∷ rs) pos n =
    let len = size rs in
    let rest = place_below rs (right_positive r len pos) (n / r) in
    omega (arith, mul-add-lt (n % r) len (place rs (n / r)) r (mod_below n r (left_positive r len pos)) rest)

pub source_below : (rs : List ℕ) → 0 < size rs → (p : ℕ) → p < size rs → source rs p < size rs
source_below [] pos p h = omega arith
source_below (r ∷ rs) pos p h =
    let len = size rs in
    let some = right_positive r len pos in
    let rest = source_below rs some (p % len) (mod_below p len some) in
    omega (arith, mul-add-lt (source rs (p % len)) r (p / len) len rest (div_below p len r some h))

-- the quotient of a number below r len by r is below len
pub quotient_below : (n r len : ℕ) → 0 < r * len → n < r * len → n / r < len
quotient_below n r len pos h = div_below n r len (left_positive r len pos) (omega arith)

pub source_place : (rs : List ℕ) → 0 < size rs → (n : ℕ) → n < size rs → source rs (place rs n) ≡ n
source_place [] pos n h = omega arith
source_place (r ∷ rs) pos n h =
    let len = size rs in
    let q = n % r in
    let rest = place rs (n / r) in
    let some = right_positive r len pos in
    let low = place_below rs some (n / r) in
    let row : (q * len + rest) / len ≡ q = div-mul-add q len rest low in
    let column : source rs ((q * len + rest) % len) ≡ n / r =
    ap (source rs) (mod-mul-add q len rest low) ∙ source_place rs some (n / r) (quotient_below n r len pos h) in
    let scaled : r * source rs ((q * len + rest) % len) ≡ r * (n / r) = ap (λ x. r * x) column in
    omega (arith, div-add-mod' n r)

pub place_source : (rs : List ℕ) → 0 < size rs → (p : ℕ) → p < size rs → place rs (source rs p) ≡ p
place_source [] pos p h = omega arith
place_source (r ∷ rs) pos p h =
    let len = size rs in
    let some = right_positive r len pos in
    let q = p / len in
    let j = p % len in
    let s = source rs j in
    let swap : q + r * s ≡ s * r + q = omega arith in
    let row = div_below p len r some h in
    let first : (q + r * s) % r ≡ q = ap (λ x. x % r) swap ∙ mod-mul-add s r q row in
    let others : place rs ((q + r * s) / r) ≡ j =
    ap (λ x. place rs (x / r)) swap ∙ ap (place rs) (div-mul-add s r q row) ∙ place_source rs some j (mod_below p len some) in
    let scaled : ((q + r * s) % r) * len ≡ q * len = ap (λ x. x * len) first in
    omega (arith, div-add-mod' p len)

pub place_injective : (rs : List ℕ) → 0 < size rs → (n k : ℕ) → n < size rs → k < size rs → place rs n ≡ place rs k → n ≡ k
place_injective rs pos n k h l same = sym (source_place rs pos n h) ∙ ap (source rs) same ∙ source_place rs pos k l

-- after the first i radices: at stands for their digits, and left for what is left of n
abbrev pub Placing : List ℕ → ℕ → ℕ → ℕ → ℕ → Type 0
Placing rs n i left at = at * size (drop i rs) + place (drop i rs) left ≡ place rs n

pub placing_none : (rs : List ℕ) (n : ℕ) → Placing rs n 0 n 0
placing_none rs n = omega arith

pub placing_more : (rs : List ℕ) (n i left at : ℕ) → i < length rs → Placing rs n i left at → Placing rs n (i + 1) (left / get_or rs i 0) (at * get_or rs i 0 + left % get_or rs i 0)
placing_more rs n i left at h p =
    let r = get_or rs i 0 in
    let len = size (drop (i + 1) rs) in
    let whole : at * size (drop i rs) ≡ at * (r * len) = ap (λ x. at * x) (at_drop_more size rs i 0 h) in
    let split : place (drop i rs) left ≡ (left % r) * len + place (drop (i + 1) rs) (left / r) = at_drop_more (λ x. place x left) rs i 0 h in
    omega (arith, add-mul (at * r) (left % r) len, mul_assoc at r len)

pub placing_all : (rs : List ℕ) (n i left at : ℕ) → length rs ≤ i → Placing rs n i left at → at ≡ place rs n
placing_all rs n i left at h p =
    let whole : at * size (drop i rs) ≡ at * 1 = ap (λ x. at * x) (at_drop_all size rs i h) in
    omega (arith, at_drop_all (λ x. place x left) rs i h)

-- one more digit leaves it below the place itself
pub placing_within : (rs : List ℕ) (n i left at : ℕ) → i < length rs → Plan rs → Placing rs n i left at → at * get_or rs i 0 + left % get_or rs i 0 < largest_size
placing_within rs n i left at h plan p =
    let next = at * get_or rs i 0 + left % get_or rs i 0 in
    let some = plan_size_positive (drop (i + 1) rs) (plan_drop rs (i + 1) plan) in
    let below = place_below rs (plan_size_positive rs plan) n in
    let small = plan.small in
    omega (arith, placing_more rs n i left at h p, mul-le next 1 next (size (drop (i + 1) rs)) (omega arith) some)

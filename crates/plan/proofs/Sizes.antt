-- Sizes and turns of a plan and of what is left of it.
use Rattle.std.proofs.Common.{◌≡◌, ℕ, zero, suc, ◌+◌, ◌*◌, ◌%◌, ◌<◌, ◌≤◌, List, [], ◌∷◌, length, drop, refl, ap, ◌∙◌, mul-le-mul_right, mul-zero, arith}
use native.Mathlib.Nat.{dvd-mul_left_of_dvd, dvd_of_mod-eq-zero, mod-eq-zero_of_dvd, le_of_dvd, mod_self}
use Rattle.std.specs.List.{sum}
use Rattle.std.proofs.lemmas.List.{length-drop, get_or-drop}
use Rattle.std.proofs.lemmas.List.Sums.{sum_by-cons}
use Rattle.std.proofs.lemmas.Nat.{mul-le}
use Rattle.plan.specs.Radices.{size, radix_sum, turns, largest_radix, most_radices, largest_size, Each, Plan}

pub each_tail : (r : ℕ) (rs : List ℕ) → Each (r ∷ rs) → Each rs
each_tail r rs each i h = each (suc i) (omega arith)

-- a factor of a product above 0 is above 0
pub right_positive : (r s : ℕ) → 0 < r * s → 0 < s
right_positive r zero h = let none : r * 0 ≡ 0 = mul-zero r in absurd (omega arith)
right_positive r (suc s) h = omega arith

pub left_positive : (r s : ℕ) → 0 < r * s → 0 < r
left_positive zero s h = omega arith
left_positive (suc r) s h = omega arith

pub size_positive : (rs : List ℕ) → Each rs → 0 < size rs
size_positive [] each = omega arith
size_positive (r ∷ rs) each =
    let pos = size_positive rs (each_tail r rs each) in
    let radix = each 0 (omega arith) in
    let more : 2 * size rs ≤ r * size rs = mul-le-mul_right (size rs) radix.0 in
    omega arith

pub plan_size_positive : (rs : List ℕ) → Plan rs → 0 < size rs
plan_size_positive rs p = size_positive rs p.each

-- what is left of a plan divides its size
pub size_drop_divides : (rs : List ℕ) (i : ℕ) → size rs % size (drop i rs) ≡ 0
size_drop_divides [] zero = refl
size_drop_divides [] (suc i) = refl
size_drop_divides (r ∷ rs) zero = mod_self (r * size rs)
size_drop_divides (r ∷ rs) (suc i) =
    let rest = size (drop i rs) in
    mod-eq-zero_of_dvd rest (dvd-mul_left_of_dvd rest (dvd_of_mod-eq-zero rest (size_drop_divides rs i)) r)

pub size_drop_le : (rs : List ℕ) (i : ℕ) → 0 < size rs → size (drop i rs) ≤ size rs
size_drop_le rs i pos = le_of_dvd pos (dvd_of_mod-eq-zero (size (drop i rs)) (size_drop_divides rs i))

pub plan_drop : (rs : List ℕ) (i : ℕ) → Plan rs → Plan (drop i rs)
plan_drop rs i p =
    let less = size_drop_le rs i (plan_size_positive rs p) in
    let few = p.few in
    let small = p.small in
    record {
      few = simp length-drop (omega arith);
      each = λ k h. simp get_or-drop (p.each (i + k) (omega (arith, length-drop i rs)));
      small = omega arith;
    }

pub radix_sum_le : (rs : List ℕ) → Each rs → radix_sum rs ≤ largest_radix * length rs
radix_sum_le [] each = omega arith
radix_sum_le (r ∷ rs) each =
    let rest = radix_sum_le rs (each_tail r rs each) in
    let radix = each 0 (omega arith) in
    omega arith

pub radix_sum_drop_le : (rs : List ℕ) (i : ℕ) → radix_sum (drop i rs) ≤ radix_sum rs
radix_sum_drop_le [] zero = omega arith
radix_sum_drop_le [] (suc i) = omega arith
radix_sum_drop_le (r ∷ rs) zero = omega arith
radix_sum_drop_le (r ∷ rs) (suc i) = let less = radix_sum_drop_le rs i in omega arith

-- no plan makes more than 512 times 72 turns
pub turns_le : (rs : List ℕ) → Plan rs → turns rs ≤ largest_size * (largest_radix * most_radices)
turns_le rs p =
    let sum = radix_sum_le rs p.each in
    let few = p.few in
    mul-le (size rs) (radix_sum rs) largest_size (largest_radix * most_radices) p.small (omega arith)

-- the library's sum of the radices
pub sum_is : (rs : List ℕ) → sum rs ≡ radix_sum rs
sum_is [] = refl
sum_is (r ∷ rs) = sum_by-cons (λ x. x) r rs ∙ ap (λ n. r + n) (sum_is rs)

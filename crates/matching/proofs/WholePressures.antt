-- The lagged sums of the pressure arithmetic are those over the whole numbers: these are below the modulus.
use Rattle.std.proofs.Common.{◌≡◌, ℕ, ◌+◌, ◌*◌, ◌%◌, ◌<◌, ◌≤◌, List, length, get_or, pos, refl, ap, ◌∙◌, zero-le, mod-lt, mod-eq_of_lt, zero-add, arith}
use native.Mathlib.Nat.{mod-mod}
use Rattle.std.specs.List.{AllByRecursion}
use Rattle.std.proofs.lemmas.Nat.{mul-le}
use Rattle.std.proofs.lemmas.List.{get_or-map, length-map}
use Rattle.algebra.proofs.Remainders.{same_sum, same_product}
use Rattle.pressure.specs.declared.Pressure.{Pressure}
use Rattle.pressure.specs.Pressures.{modulus, counted, pressures}
use Rattle.stroke.specs.Contents.{limit, most_samples}
use Rattle.stroke.proofs.Indexed.{all_at}
use Rattle.matching.specs.Lags.{pressure_match, best_count}
use Rattle.matching.specs.Readings.{lag_term, lagged, entered_pressures, read_pressures}
use Rattle.matching.proofs.Best.{best_same}
use Rattle.matching.proofs.Totals.{total_stands, total_small}

-- an element stands for a whole number
abbrev Means : Pressure → ℕ → Type 0
Means x n = x.word % modulus ≡ n % modulus

sum_means : (x y : Pressure) (n k : ℕ) → Means x n → Means y k → Means (pressures.sum x y) (n + k)
sum_means x y n k p q = mod-mod (x.word + y.word) modulus ∙ same_sum modulus x.word n y.word k p q

product_means : (x y : Pressure) (n k : ℕ) → Means x n → Means y k → Means (pressures.product x y) (n * k)
product_means x y n k p q = mod-mod (x.word * y.word) modulus ∙ same_product modulus x.word n y.word k p q

-- two lists of pressures within limits, of one length
module _ (p q : List ℕ) (same : length q ≡ length p) (few : length p ≤ most_samples) (low_p : AllByRecursion (λ u. u ≤ limit) p) (low_q : AllByRecursion (λ u. u ≤ limit) q) where
  low : (us : List ℕ) → AllByRecursion (λ u. u ≤ limit) us → (t : ℕ) → get_or us t 0 ≤ limit
  low us h = all_at (λ u. u ≤ limit) us 0 zero-le h

  small : (lag : ℕ) → pressure_match p q lag < modulus
  unfolding pressure_match
  small lag =
      let sum = total_small ◌+◌ 0 (λ n. n) refl (λ n k. omega arith) (limit * limit) (λ t. get_or p t 0 * get_or q ((t + lag) % length p) 0) (length p)
      (λ t h. mul-le (get_or p t 0) (get_or q ((t + lag) % length p) 0) limit limit (low p low_p t) (low q low_q ((t + lag) % length p))) in
      omega arith

  term_means : (lag t : ℕ) → t < length p → Means (lag_term pressures (entered_pressures p) (entered_pressures q) lag t) (get_or p t 0 * get_or q ((t + lag) % length p) 0)
  term_means lag t h =
      let at = (t + lag) % length p in
      let some : 0 < length p = omega arith in
      let there : at < length q = omega (arith, mod-lt (t + lag) some) in
      let left = get_or-map counted p t 0 pressures.zero h in
      let right = get_or-map counted q at 0 pressures.zero there in
      rw (length-map p counted, left, right) (product_means (counted (get_or p t 0)) (counted (get_or q at 0)) (get_or p t 0) (get_or q at 0) refl refl)

  sum_means_match : (lag : ℕ) → 0 < length p → Means (lagged pressures (entered_pressures p) (entered_pressures q) lag) (pressure_match p q lag)
  unfolding lagged pressure_match
  sum_means_match lag some =
      rw (length-map p counted)
      (total_stands pressures ◌+◌ 0 Means sum_means zero-add (lag_term pressures (entered_pressures p) (entered_pressures q) lag)
      (λ t. get_or p t 0 * get_or q ((t + lag) % length p) 0) (length p) some (term_means lag))

  read_match : (lag : ℕ) → 0 < length p → read_pressures (entered_pressures p) (entered_pressures q) lag ≡ pressure_match p q lag
  unfolding read_pressures
  read_match lag some = sum_means_match lag some ∙ mod-eq_of_lt (small lag)

  pub best_pressure : (xs ys : List Pressure) → 0 < length p → xs ≡ entered_pressures p → ys ≡ entered_pressures q
      → best_count (read_pressures xs ys) (length xs) ≡ best_count (pressure_match p q) (length p)
  best_pressure xs ys some left right =
      ap (best_count (read_pressures xs ys)) (ap length left ∙ length-map p counted)
      ∙ best_same (λ k. pos (read_pressures xs ys k)) (λ k. pos (pressure_match p q k)) (length p)
      (λ k h. ap pos (rw (left, right) (read_match k some)))

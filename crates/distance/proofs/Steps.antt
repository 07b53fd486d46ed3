-- Steps round the circle: what sample t of a block turns by in tone k, by its place in its part.
use Rattle.std.proofs.Common.{◌≡◌, ℕ, ◌+◌, ◌*◌, ◌/◌, ◌%◌, ◌<◌, ◌≤◌, sym, ap, zero-mul, arith}
use native.Mathlib.Nat.{div-add-mod, div-eq_of_eq-mul_right, zero-mod}
use Rattle.std.proofs.lemmas.Nat.{mul-le}
use Rattle.quarter.specs.Entries.{circle, entry}
use Rattle.plan.proofs.Sizes.{left_positive, right_positive}
use Rattle.distance.proofs.Quarters.{entry_same}

-- n steps of u go round the circle once
module _ (n u : ℕ) (round : n * u ≡ circle) where
  pub steps_positive : 0 < n
  steps_positive = left_positive n u (omega arith)

  pub steps_at_most : n ≤ circle
  steps_at_most = omega (arith, mul-le n 1 n u (omega arith) (right_positive n u (omega arith)))

  pub step_is : circle / n ≡ u
  step_is = div-eq_of_eq-mul_right steps_positive (sym round)

  -- x steps are x mod n steps and some full circles
  pub steps_round : (x : ℕ) → (x % n) * u + circle * (x / n) ≡ x * u
  steps_round x =
      let all = ap (λ y. y * u) (div-add-mod x n) in
      let full = ap (λ y. x / n * y) round in
      omega arith

-- part q goes (q k mod N) steps on, and there sample i of the part i (k mod len) steps of r each: as sample q + r i in tone k
pub step_of_part : (r len u : ℕ) → (r * len) * u ≡ circle → (e k q i : ℕ) → entry (e + ((q * k) % (r * len)) * u + (i * (k % len)) * (r * u)) ≡ entry (e + ((q + r * i) * k) * u)
step_of_part r len u round e k q i =
    let inner : len * (r * u) ≡ circle = omega arith in
    let outer = steps_round (r * len) u round (q * k) in
    let part = ap (λ y. i * y) (steps_round len (r * u) inner k) in
    entry_same
    (e + ((q * k) % (r * len)) * u + (i * (k % len)) * (r * u)) (e + ((q + r * i) * k) * u) ((q * k) / (r * len) + i * (k / len))
    (omega arith)

-- part 0 goes none
pub no_steps : (k n v : ℕ) → ((0 * k) % n) * v ≡ 0
no_steps k n v = rw (zero-mul, zero-mod, zero-mul)

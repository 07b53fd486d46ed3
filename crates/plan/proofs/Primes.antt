-- A prime that divides a product with a smaller number divides the other factor.
use Rattle.std.proofs.Common.{◌≡◌, ℕ, zero, suc, ◌-◌, ◌*◌, ◌/◌, ◌%◌, ◌<◌, ◌≤◌, List, [], ◌∷◌, length, get_or, ap, ◌∙◌, ⊎_elim, mod-eq_of_lt, mul_assoc, arith}
use native.Mathlib.Nat.{dvd-sub, dvd-mul_left_of_dvd, dvd-mul_right, dvd_of_mod-eq-zero, mod-eq-zero_of_dvd}
use Rattle.std.proofs.lemmas.Nat.{div-add-mod', mod_below}
use Rattle.std.proofs.lemmas.Bool.{cases_eq}
use Rattle.arithmetic.specs.Laws.{Prime, Divides}
use Rattle.plan.specs.Radices.{size}

pub above_zero : (n : ℕ) → (n ≡ 0 → ⊥) → 0 < n
above_zero n not = grind arith

pub above_one : (n : ℕ) → 0 < n → (n ≡ 1 → ⊥) → 1 < n
above_one n pos not = grind arith

-- q m less what r m divides into it leaves a smaller multiple of m: down to m itself
prime_step : (k q m r : ℕ) → r ≤ k → Prime q → 0 < r → r < q → Divides q (r * m) → Divides q m
prime_step zero q m r h prime pos less divides = absurd (omega arith)
prime_step (suc k) q m r h prime pos less divides =
    ⊎_elim
    (λ (one : r ≡ 1). let is : m ≡ r * m = omega (arith, ap (λ x. x * m) one) in ap (λ x. x % q) is ∙ divides)
    (λ (not : r ≡ 1 → ⊥).
    let s = q % r in
    let t = q / r in
    let low : s < r = mod_below q r pos in
    let some : 0 < s = above_zero s (λ z. prime.1 r (above_one r pos not) less z) in
    let split : s * m ≡ q * m - t * (r * m) = omega (arith, ap (λ x. x * m) (div-add-mod' q r), mul_assoc t r m) in
    let multiple = dvd-sub q (dvd-mul_right q m) (dvd-mul_left_of_dvd q (dvd_of_mod-eq-zero q divides) t) in
    prime_step k q m s (omega arith) prime some (omega arith) (ap (λ x. x % q) split ∙ mod-eq-zero_of_dvd q multiple))
    (cases_eq r 1)

pub prime_divides_right : (q r m : ℕ) → Prime q → 0 < r → r < q → Divides q (r * m) → Divides q m
prime_divides_right q r m = prime_step r q m r (omega arith)

-- a prime above every radix does not divide their product
pub prime_above_radices : (q : ℕ) (rs : List ℕ) → Prime q → ((i : ℕ) → i < length rs → (0 < get_or rs i 0) × (get_or rs i 0 < q)) → Divides q (size rs) → ⊥
prime_above_radices q [] prime each divides =
    let one : 1 % q ≡ 1 = mod-eq_of_lt prime.0 in
    omega arith
prime_above_radices q (r ∷ rs) prime each divides =
    let radix = each 0 (omega arith) in
    prime_above_radices q rs prime (λ i h. each (suc i) (omega arith)) (prime_divides_right q r (size rs) prime radix.0 radix.1 divides)

-- Divisors: a number as its divisor times the rest, a prime among the divisors, and a divisor found by remainders.
use mathlib.Core.Path.{◌≡◌, ap, refl, sym, ◌∙◌}
use mathlib.Core.Logic.{◌⊎◌, inl, inr, ⊎_elim}
use Prim.Native.Nat.{ℕ, zero, suc, ◌+◌, ◌-◌, ◌*◌, ◌/◌, ◌%◌, ◌<◌}
use native.Mathlib.Nat.{add-zero, div-add-mod, dvd_trans, dvd-mul_right_of_dvd, dvd_of_mod-eq-zero, mod-eq-zero_of_dvd, mod_self, mod-zero, mod-lt, not-suc-le-zero}
use native.Mathlib.Omega.{arith}
use borrow.Author.Count.{below_more}
use Rattle.arithmetic.specs.Laws.{Prime, Divides}

-- a prime that divides n
abbrev pub PrimeFactor : ℕ → Type 0
PrimeFactor n = (q : ℕ) × Prime q × Divides q n

-- a divisor of n below n of which P holds
abbrev pub DivisorWith : (ℕ → Type 0) → ℕ → Type 0
DivisorWith P n = (d : ℕ) × Divides d n × (d < n) × P d

-- nothing from 2 to d - 1 divides n
abbrev NoneBelow : ℕ → ℕ → Type 0
NoneBelow d n = (e : ℕ) → e < d → 1 < e → Divides e n → ⊥

pub times_quotient : (n m : ℕ) → Divides n m → n * (m / n) ≡ m
times_quotient n m z = sym (add-zero (n * (m / n))) ∙ ap (λ x. n * (m / n) + x) (sym z) ∙ div-add-mod m n

pub divides_trans : (d e n : ℕ) → Divides d e → Divides e n → Divides d n
divides_trans d e n p q = mod-eq-zero_of_dvd d (dvd_trans d (dvd_of_mod-eq-zero d p) (dvd_of_mod-eq-zero e q))

pub divides_times : (d n k : ℕ) → Divides d n → Divides d (n * k)
divides_times d n k p = mod-eq-zero_of_dvd d (dvd-mul_right_of_dvd d (dvd_of_mod-eq-zero d p) k)

pub divisor_above_zero : (d n : ℕ) → 0 < n → Divides d n → 0 < d
divisor_above_zero zero n p z = let none : n % 0 ≡ n = mod-zero n in omega arith
divisor_above_zero (suc d) n p z = omega arith

zero_or_more : (n : ℕ) → (n ≡ 0) ⊎ (0 < n)
zero_or_more zero = inl refl
zero_or_more (suc n) = inr (omega arith)

-- the least divisor above 1 is a prime
least_is_prime : (d n : ℕ) → 1 < d → NoneBelow d n → Divides d n → PrimeFactor n
least_is_prime d n l none z = (d, (l, λ e low high y. none e high low (divides_trans e d n y z)), z)

-- it is looked for from d on
prime_from : (left d n : ℕ) → d + left ≡ n → 1 < d → NoneBelow d n → PrimeFactor n
prime_from zero d n end l none =
    let last : d ≡ n = omega arith in
    least_is_prime d n l none (ap (λ x. n % x) last ∙ mod_self n)
prime_from (suc left) d n end l none =
    ⊎_elim
    (λ (z : n % d ≡ 0). least_is_prime d n l none z)
    (λ (p : 0 < n % d). prime_from left (d + 1) n (omega arith) (omega arith) (below_more (λ e. 1 < e → Divides e n → ⊥) d none (λ _ z. omega arith)))
    (zero_or_more (n % d))

pub prime_factor : (n : ℕ) → 1 < n → PrimeFactor n
prime_factor n l = prime_from (n - 2) 2 n (omega arith) (omega arith) (λ e high low _. omega arith)

-- what holds of n % s with s comes down to a divisor of n
module _ (n : ℕ) (P : ℕ → Type 0) (over : (s : ℕ) → P s → P (n % s)) where
  descent : (fuel s : ℕ) → s < fuel → 0 < s → s < n → P s → DivisorWith P n
  descent zero s f low high p = absurd (not-suc-le-zero f)
  descent (suc fuel) s f low high p =
      let less : n % s < s = mod-lt n low in
      ⊎_elim
      (λ (z : n % s ≡ 0). (s, z, high, p))
      (λ (more : 0 < n % s). descent fuel (n % s) (omega arith) more (omega arith) (over s p))
      (zero_or_more (n % s))

  pub divisor_by_remainders : (s : ℕ) → 0 < s → s < n → P s → DivisorWith P n
  divisor_by_remainders s low high p = descent (suc s) s (omega arith) low high p

-- Exponents round the circle of a span that n divides: tone k goes k (span / n) further from part to part.
use Rattle.std.proofs.Common.{◌≡◌, ℕ, zero, suc, ◌+◌, ◌-◌, ◌*◌, ◌/◌, ◌%◌, ◌<◌, ◌≤◌, sym, ap, ◌∙◌, add-zero, mod-lt, mod-eq_of_lt, mul_assoc, mul_comm, add-mul, mul-lt-mul_of_pos_right, one-mul, mul-zero, zero-mul, arith}
use native.Mathlib.Nat.{mod-add-mod, mod-eq-sub-mod, div-add-mod, mul-add-mod_self_left, zero-mod}

pub mod_below_span : (x span : ℕ) → x < span → x ≡ x % span
mod_below_span x span h = sym (mod-eq_of_lt h)

pub mod_past_span : (x span : ℕ) → span ≤ x → x < span + span → x - span ≡ x % span
mod_past_span x span l h =
    let less : x - span < span = omega arith in
    sym (mod-eq-sub-mod l ∙ mod-eq_of_lt less)

pub quotient_whole : (span n : ℕ) → span % n ≡ 0 → span ≡ n * (span / n)
quotient_whole span n z =
    sym (sym (add-zero (n * (span / n))) ∙ ap (λ x. n * (span / n) + x) (sym z) ∙ div-add-mod span n)

scaled_below : (x n u : ℕ) → x < n → 0 < n * u → x * u < n * u
scaled_below x n zero h p = let none : n * 0 ≡ 0 = mul-zero n in absurd (omega arith)
scaled_below x n (suc u) h p = mul-lt-mul_of_pos_right h (omega arith)

scaled_mod : (a n u : ℕ) → 0 < n → 0 < n * u → (a * u) % (n * u) ≡ (a % n) * u
scaled_mod a n u pn p =
    let split : a * u ≡ (n * u) * (a / n) + (a % n) * u =
    ap (λ x. x * u) (sym (div-add-mod a n)) ∙ add-mul (n * (a / n)) (a % n) u
    ∙ ap (λ x. x + (a % n) * u) (mul_assoc n (a / n) u ∙ ap (λ x. n * x) (mul_comm (a / n) u) ∙ sym (mul_assoc n u (a / n))) in
    ap (λ x. x % (n * u)) split ∙ mul-add-mod_self_left (n * u) (a / n) ((a % n) * u)
    ∙ mod-eq_of_lt (scaled_below (a % n) n u (mod-lt a pn) p)

-- the exponent of part q in tone k
abbrev pub exponent : ℕ → ℕ → ℕ → ℕ → ℕ
exponent span n k q = ((q * k) % n) * (span / n)

pub exponent_none : (span n k : ℕ) → 0 ≡ exponent span n k 0
exponent_none span n k =
    sym (ap (λ x. (x % n) * (span / n)) (zero-mul k) ∙ ap (λ x. x * (span / n)) (zero-mod n) ∙ zero-mul (span / n))

pub exponent_one : (span n k : ℕ) → k < n → k * (span / n) ≡ exponent span n k 1
exponent_one span n k h = ap (λ x. x * (span / n)) (sym (mod-eq_of_lt h) ∙ ap (λ x. x % n) (sym (one-mul k)))

module _ (span n k : ℕ) (pos : 0 < span) (z : span % n ≡ 0) where
  pub step_below : k < n → k * (span / n) < span
  step_below h =
      let w = quotient_whole span n z in
      let b : k * (span / n) < n * (span / n) = scaled_below k n (span / n) h (omega arith) in
      omega arith

  pub exponent_more : (q : ℕ) → 0 < n → (exponent span n k q + k * (span / n)) % span ≡ exponent span n k (q + 1)
  exponent_more q pn =
      let u = span / n in
      let w : span ≡ n * u = quotient_whole span n z in
      let some : 0 < n * u = omega arith in
      let next : q * k + k ≡ (q + 1) * k = omega arith in
      ap (λ x. (((q * k) % n) * u + k * u) % x) w
      ∙ ap (λ x. x % (n * u)) (sym (add-mul ((q * k) % n) k u))
      ∙ scaled_mod ((q * k) % n + k) n u pn some
      ∙ ap (λ x. x * u) (mod-add-mod (q * k) n k ∙ ap (λ x. x % n) next)

-- Turns by n-th parts of a circle: they add up, and only their number modulo n counts.
use mathlib.Core.Path.{◌≡◌, ap, sym, ◌∙◌, ◌≡⟨◌⟩◌, ◌∎}
use Prim.Native.Nat.{ℕ, ◌+◌, ◌*◌, ◌/◌, ◌%◌}
use native.Mathlib.Nat.{add-mul, zero-mod, zero-mul}
use Rattle.arithmetic.specs.Meaning.{Meaning}
use Rattle.arithmetic.specs.Series.{series}
use Rattle.arithmetic.specs.Laws.{Divides}
use Rattle.arithmetic.proofs.Ladder.{ExactLaws}
use Rattle.arithmetic.proofs.Totals.{total, total_same, series_total}
use Rattle.arithmetic.proofs.Divisors.{times_quotient}
use Rattle.arithmetic.proofs.Remainders.{steps_round}

-- x n-th parts of a circle
abbrev pub parts : {A R : Type 0} → Meaning A R → ℕ → ℕ → ℕ
parts m n x = x * (m.span / n)

module _ {A R : Type 0} {m : Meaning A R} (law : ExactLaws m) where
  pub turn_parts : (a : A) (n x y : ℕ) → m.turn (m.turn a (parts m n x)) (parts m n y) ≡ m.turn a (parts m n (x + y))
  turn_parts a n x y =
      let u = m.span / n in
      m.turn (m.turn a (x * u)) (y * u) ≡⟨ law.exact.turn_turn a (x * u) (y * u) ⟩
      m.turn a ((x * u + y * u) % m.span) ≡⟨ law.every.turn_by_remainder a (x * u + y * u) ⟩
      m.turn a (x * u + y * u) ≡⟨ ap (m.turn a) (sym (add-mul x y u)) ⟩
      m.turn a ((x + y) * u) ∎

  module _ (n : ℕ) (z : Divides n m.span) where
    pub turn_remainder : (a : A) (x : ℕ) → m.turn a (parts m n (x % n)) ≡ m.turn a (parts m n x)
    turn_remainder a x =
        let u = m.span / n in
        let same : ((x % n) * u) % m.span ≡ (x * u) % m.span = rw (times_quotient n m.span z) at (sym (steps_round x n u)) in
        m.turn a ((x % n) * u) ≡⟨ sym (law.every.turn_by_remainder a ((x % n) * u)) ⟩
        m.turn a (((x % n) * u) % m.span) ≡⟨ ap (m.turn a) same ⟩
        m.turn a ((x * u) % m.span) ≡⟨ law.every.turn_by_remainder a (x * u) ⟩
        m.turn a (x * u) ∎

    pub turn_congruent : (a : A) (x y : ℕ) → x % n ≡ y % n → m.turn a (parts m n x) ≡ m.turn a (parts m n y)
    turn_congruent a x y e =
        m.turn a (parts m n x) ≡⟨ sym (turn_remainder a x) ⟩
        m.turn a (parts m n (x % n)) ≡⟨ ap (λ w. m.turn a (parts m n w)) e ⟩
        m.turn a (parts m n (y % n)) ≡⟨ turn_remainder a y ⟩
        m.turn a (parts m n y) ∎

    -- whole circles
    pub turn_whole : (a : A) (x : ℕ) → Divides n x → m.turn a (parts m n x) ≡ m.value a
    turn_whole a x whole_circles =
        m.turn a (parts m n x) ≡⟨ turn_congruent a x 0 (whole_circles ∙ sym (zero-mod n)) ⟩
        m.turn a (parts m n 0) ≡⟨ ap (m.turn a) (zero-mul (m.span / n)) ⟩
        m.turn a 0 ≡⟨ law.exact.turn_by_zero a ⟩
        m.value a ∎

    -- the ordered sum of turned terms, with no remainders taken
    pub series_turned : (f : ℕ → A) (e : ℕ → ℕ) (c : ℕ) →
        series m (λ t. m.turn (f t) ((e t % n) * (m.span / n))) c ≡ total m (λ t. m.turn (f t) (parts m n (e t))) c
    series_turned f e c =
        series_total law _ c (λ t. law.every.turn_reduced (f t) ((e t % n) * (m.span / n))) ∙ total_same law c (λ t _. turn_remainder (f t) (e t))

-- A sum of turns all round a circle, over a full arithmetic: it is zero unless each turn is by whole circles.
--
-- Let g be the sum over k below n of a turned by s k n-th parts of a circle. Turned by s parts more, g is itself, since
-- the places go one on. The numbers of parts that leave g as it is are closed under sums and differences, so some divisor
-- d of n below n is among them, and with a prime factor q of n/d also n/q. Then of the q turned copies of g that sum to
-- zero each is g, and so g is the part by q of zero.
use mathlib.Core.Path.{◌≡◌, ap, sym, ◌∙◌, ◌≡⟨◌⟩◌, ◌∎}
use Prim.Native.Nat.{ℕ, zero, suc, ◌+◌, ◌*◌, ◌/◌, ◌%◌, ◌<◌}
use native.Mathlib.Nat.{mul-zero, mul-suc, mul-one, zero-mul, div-add-mod, mod_self, mod-lt, mul-mod_right, mul-div_right}
use native.Mathlib.Omega.{arith}
use Rattle.arithmetic.specs.Meaning.{Meaning}
use Rattle.arithmetic.specs.Laws.{Prime, Divides, copies}
use Rattle.arithmetic.proofs.Ladder.{ExactLaws, FullLaws}
use Rattle.arithmetic.proofs.Series.{series_same}
use Rattle.arithmetic.proofs.Totals.{total, total_reduced, total_same, total_zeros, turn_of_total, series_total}
use Rattle.arithmetic.proofs.Circles.{total_shifted}
use Rattle.arithmetic.proofs.Divisors.{times_quotient, divides_times, divisor_above_zero, divisor_by_remainders, prime_factor}
use Rattle.arithmetic.proofs.Remainders.{mul_remainder}
use Rattle.arithmetic.proofs.Turns.{parts, turn_parts, turn_remainder, turn_congruent, turn_whole}

-- turned by j n-th parts of a circle, g is itself
abbrev Stays : {A R : Type 0} → Meaning A R → ℕ → A → ℕ → Type 0
Stays m n g j = m.turn g (parts m n j) ≡ g

-- a turned by s k n-th parts of a circle, summed over k below n
abbrev pub around : {A R : Type 0} → Meaning A R → ℕ → A → ℕ → A
around m n a s = total m (λ k. m.turn a (parts m n (s * k))) n

factor_first : (d q x u : ℕ) → (d * (q * x)) * u ≡ q * ((d * x) * u)
factor_first d q x u = omega arith

factor_last : (j d x u : ℕ) → j * ((d * x) * u) ≡ (d * (x * j)) * u
factor_last j d x u = omega arith

one_more : (s k : ℕ) → s * k + s ≡ s * (k + 1)
one_more s k = omega arith

more_than_once : (d c n : ℕ) → d * c ≡ n → d < n → 1 < c
more_than_once d zero n e l = let none : d * 0 ≡ 0 = mul-zero d in omega arith
more_than_once d (suc zero) n e l = let once : d * 1 ≡ d = mul-one d in omega arith
more_than_once d (suc (suc c)) n e l = omega arith

module _ {A R : Type 0} {m : Meaning A R} (law : ExactLaws m) (n : ℕ) (z : Divides n m.span) where
  module _ (g : A) (reduced : m.value g ≡ g) where
    stays_none : Stays m n g 0
    stays_none = ap (m.turn g) (zero-mul (m.span / n)) ∙ law.exact.turn_by_zero g ∙ reduced

    stays_sum : (i j : ℕ) → Stays m n g i → Stays m n g j → Stays m n g (i + j)
    stays_sum i j p q = sym (turn_parts law g n i j) ∙ ap (λ x. m.turn x (parts m n j)) p ∙ q

    stays_difference : (i j : ℕ) → Stays m n g i → Stays m n g (i + j) → Stays m n g j
    stays_difference i j p q = ap (λ x. m.turn x (parts m n j)) (sym p) ∙ turn_parts law g n i j ∙ q

    stays_times : (i c : ℕ) → Stays m n g i → Stays m n g (i * c)
    stays_times i zero p = rw mul-zero stays_none
    stays_times i (suc c) p = rw mul-suc (stays_sum (i * c) i (stays_times i c p) p)

    stays_whole : Stays m n g n
    stays_whole = turn_whole law n z g n (mod_self n) ∙ reduced

    stays_remainder : (s : ℕ) → Stays m n g s → Stays m n g (n % s)
    stays_remainder s p = stays_difference (s * (n / s)) (n % s) (stays_times s (n / s) p) (rw div-add-mod stays_whole)

  -- one place on round the circle
  around_stays : (a : A) (s : ℕ) → Stays m n (around m n a s) s
  around_stays a s =
      let f : ℕ → A = λ k. m.turn a (parts m n (s * k)) in
      let next : (k : ℕ) → (s * k + s) % n ≡ (s * ((k + 1) % n)) % n = λ k. ap (λ x. x % n) (one_more s k) ∙ sym (mul_remainder s (k + 1) n) in
      m.turn (total m f n) (parts m n s) ≡⟨ turn_of_total law f (parts m n s) n ⟩
      total m (λ k. m.turn (f k) (parts m n s)) n ≡⟨ total_same law n (λ k _. turn_parts law a n (s * k) s) ⟩
      total m (λ k. m.turn a (parts m n (s * k + s))) n ≡⟨ total_same law n (λ k _. turn_congruent law n z a (s * k + s) (s * ((k + 1) % n)) (next k)) ⟩
      total m (λ k. f ((k + 1) % n)) n ≡⟨ total_shifted law f n 1 (divisor_above_zero n m.span law.every.span_above_zero z) ⟩
      total m f n ∎

module _ {A R : Type 0} {m : Meaning A R} (law : FullLaws m) where
  -- copies that sum to zero are of zero
  zero_from_copies : (g : A) (q : ℕ) → Divides q m.span → m.value g ≡ g → copies m q g ≡ m.zero → g ≡ m.zero
  zero_from_copies g q z reduced none =
      let exact = law.exactly in
      let zeros : copies m q m.zero ≡ m.zero =
      series_total exact (λ _. m.zero) q (λ _. exact.every.zero_reduced) ∙ total_zeros exact q in
      g ≡⟨ sym reduced ∙ sym (law.full.part_of_copies g q z) ⟩
      m.part (copies m q g) q ≡⟨ ap (λ x. m.part x q) (none ∙ sym zeros) ⟩
      m.part (copies m q m.zero) q ≡⟨ law.full.part_of_copies m.zero q z ∙ exact.every.zero_reduced ⟩
      m.zero ∎

  module _ (n : ℕ) (z : Divides n m.span) where
    module _ (g : A) (reduced : m.value g ≡ g) where
      -- where n/q parts leave g as it is, n being d q x
      zero_from_prime : (d q x : ℕ) → n ≡ d * (q * x) → Prime q → Stays m n g d → g ≡ m.zero
      zero_from_prime d q x factors prime stays =
          let u = m.span / n in
          let by_q : m.span ≡ q * ((d * x) * u) = sym (times_quotient n m.span z) ∙ ap (λ y. y * u) factors ∙ factor_first d q x u in
          let share : m.span / q ≡ (d * x) * u = ap (λ y. y / q) by_q ∙ mul-div_right ((d * x) * u) (omega (arith, prime.0)) in
          let divides : Divides q m.span = ap (λ y. y % q) by_q ∙ mul-mod_right q ((d * x) * u) in
          let each : (j : ℕ) → m.turn g (j * (m.span / q)) ≡ g = λ j.
          ap (m.turn g) (ap (λ y. j * y) share ∙ factor_last j d x u) ∙ stays_times law.exactly n z g reduced d (x * j) stays in
          zero_from_copies g q divides reduced
          (series_same m (λ _. g) (λ j. m.turn g (j * (m.span / q))) q (λ j _. sym (each j)) ∙ law.exactly.exact.circle_vanishes g q prime divides)

      zero_from_divisor : (d : ℕ) → Divides d n → d < n → Stays m n g d → g ≡ m.zero
      zero_from_divisor d divides less stays =
          let c = n / d in
          let (q, prime, factor) = prime_factor c (more_than_once d c n (times_quotient d n divides) less) in
          zero_from_prime d q (c / q) (sym (ap (λ y. d * y) (times_quotient q c factor) ∙ times_quotient d n divides)) prime stays

      zero_from_stays : (s : ℕ) → 0 < s → s < n → Stays m n g s → g ≡ m.zero
      zero_from_stays s low high stays =
          let (d, divides, less, stays_so) = divisor_by_remainders n (Stays m n g) (stays_remainder law.exactly n z g reduced) s low high stays in
          zero_from_divisor d divides less stays_so

    pub around_vanishes : (a : A) (s : ℕ) → (Divides n s → ⊥) → around m n a s ≡ m.zero
    around_vanishes a s other =
        let exact = law.exactly in
        let g = around m n a s in
        let less : s % n < n = mod-lt s (divisor_above_zero n m.span exact.every.span_above_zero z) in
        let stays : Stays m n g (s % n) = turn_remainder exact n z g s ∙ around_stays exact n z a s in
        zero_from_stays g (total_reduced exact _ n) (s % n) (omega (arith, other)) less stays

    -- where each turn is by whole circles, the part by n of the n copies
    pub part_of_around : (a : A) (s : ℕ) → Divides n s → m.part (around m n a s) n ≡ m.value a
    part_of_around a s divides =
        let exact = law.exactly in
        m.part (around m n a s) n ≡⟨ ap (λ x. m.part x n) (total_same exact n (λ k _. turn_whole exact n z a (s * k) (divides_times n s k divides))) ⟩
        m.part (total m (λ _. m.value a) n) n ≡⟨ ap (λ x. m.part x n) (sym (series_total exact (λ _. m.value a) n (λ _. exact.every.value_value a))) ⟩
        m.part (copies m n (m.value a)) n ≡⟨ law.full.part_of_copies (m.value a) n z ⟩
        m.value (m.value a) ≡⟨ exact.every.value_value a ⟩
        m.value a ∎

-- The tones by the recursion are the defining sums.
--
-- The defining sum of N = r len samples is regrouped by the remainders q of t modulo r. With t = q + r i, sample t is
-- turned by (q + r i) k N-th parts of a circle: by i k len-th parts in tone k mod len of part q, and by q k N-th parts as
-- a whole. So tone k is the recursion's sum over q.
use Rattle.std.proofs.Common.{◌≡◌, ℕ, ◌+◌, ◌*◌, ◌/◌, ◌%◌, ◌<◌, List, [], ◌∷◌, length, sym, refl, ap, ◌∙◌, mod-lt, add-mul, zero-add, arith}
use mathlib.Core.Path.{◌≡⟨◌⟩◌, ◌∎}
use native.Mathlib.Nat.{mod-one, mul-mod_left, mul-div_right}
use Rattle.std.specs.List.{range_with_len, flat_map}
use Rattle.std.proofs.lemmas.List.FromFn.{length-map-range_with_len}
use Rattle.arithmetic.specs.Meaning.{Meaning}
use Rattle.arithmetic.specs.Series.{series}
use Rattle.arithmetic.specs.Laws.{Divides}
use Rattle.arithmetic.proofs.Ladder.{ExactLaws}
use Rattle.arithmetic.proofs.Totals.{total, total_reduced, total_same, total_single, total_by_remainders, turn_of_total}
use Rattle.arithmetic.proofs.Divisors.{times_quotient, divides_trans, divisor_above_zero}
use Rattle.arithmetic.proofs.Remainders.{mul_remainder}
use Rattle.arithmetic.proofs.Turns.{parts, turn_parts, turn_congruent, turn_whole, series_turned}
use Rattle.plan.specs.Radices.{size}
use Rattle.plan.specs.Dealing.{every}
use Rattle.plan.proofs.Deals.{joined_at, length_every}
use Rattle.spectra.specs.Tones.{term, tone, combine, tones}
use Rattle.spectra.specs.Spectra.{defining, spectrum}
use Rattle.spectra.specs.SpectraLaws.{TonesOf, AllPlansAgree}
use Rattle.spectra.proofs.SpectraByPlace.{sample, tones_by_place, value_of_tone}
use Rattle.spectra.proofs.ByPlace.{at_place}
use Rattle.spectra.proofs.Recursion.{length_tones}

-- tone k of n samples f as a sum from zero on, with no remainders taken: sample t turned by t k n-th parts of a circle
abbrev pub tone_total : {A R : Type 0} → Meaning A R → ℕ → (ℕ → A) → ℕ → A
tone_total m n f k = total m (λ t. m.turn (f t) (parts m n (t * k))) n

inner_first : (r len u : ℕ) → (r * len) * u ≡ len * (r * u)
inner_first r len u = omega arith

steps_of_part : (x r u : ℕ) → x * (r * u) ≡ (r * x) * u
steps_of_part x r u = omega arith

steps_of_both : (q r i k : ℕ) → r * (i * k) + q * k ≡ (q + r * i) * k
steps_of_both q r i k = omega arith

module _ {A R : Type 0} {m : Meaning A R} (law : ExactLaws m) where
  pub defining_total : (a : List A) (n k : ℕ) → length a ≡ n → Divides n m.span → defining m a k ≡ tone_total m n (sample m a) k
  unfolding defining
  defining_total a n k long z =
      let z' : Divides (length a) m.span = rw long z in
      rw (← long) (series_turned law (length a) z' (sample m a) (λ t. t * k) (length a))

  pub tone_total_same : {f g : ℕ → A} (n k : ℕ) → ((t : ℕ) → t < n → f t ≡ g t) → tone_total m n f k ≡ tone_total m n g k
  tone_total_same n k h = total_same law n (λ t l. ap (λ x. m.turn x (parts m n (t * k))) (h t l))

  -- of one sample
  tone_total_one : (f : ℕ → A) (k : ℕ) → Divides 1 m.span → tone_total m 1 f k ≡ m.value (f 0)
  tone_total_one f k z =
      tone_total m 1 f k ≡⟨ total_single law _ 1 0 (omega arith) (λ j h other. absurd (other (omega arith))) ⟩
      m.value (m.turn (f 0) (parts m 1 (0 * k))) ≡⟨ law.every.turn_reduced (f 0) (parts m 1 (0 * k)) ⟩
      m.turn (f 0) (parts m 1 (0 * k)) ≡⟨ turn_whole law 1 z (f 0) (0 * k) (mod-one (0 * k)) ⟩
      m.value (f 0) ∎

  -- turned by b k parts
  pub turn_of_tone_total : (f : ℕ → A) (n k b : ℕ) →
      m.turn (tone_total m n f k) (parts m n (b * k)) ≡ total m (λ t. m.turn (f t) (parts m n ((t + b) * k))) n
  turn_of_tone_total f n k b =
      m.turn (tone_total m n f k) (parts m n (b * k)) ≡⟨ turn_of_total law (λ t. m.turn (f t) (parts m n (t * k))) (parts m n (b * k)) n ⟩
      total m (λ t. m.turn (m.turn (f t) (parts m n (t * k))) (parts m n (b * k))) n ≡⟨ total_same law n (λ t _. turn_parts law (f t) n (t * k) (b * k)) ⟩
      total m (λ t. m.turn (f t) (parts m n (t * k + b * k))) n ≡⟨ total_same law n (λ t _. ap (λ e. m.turn (f t) (parts m n e)) (sym (add-mul t b k))) ⟩
      total m (λ t. m.turn (f t) (parts m n ((t + b) * k))) n ∎

  -- N = r len samples, in r parts
  module _ (r len : ℕ) (z : Divides (r * len) m.span) where
    part_divides : Divides len m.span
    part_divides = divides_trans len (r * len) m.span (mul-mod_left r len) z

    part_above_zero : 0 < len
    part_above_zero = divisor_above_zero len m.span law.every.span_above_zero part_divides

    -- a len-th part of a circle is r of its N-th parts
    parts_within : (x : ℕ) → parts m len x ≡ parts m (r * len) (r * x)
    parts_within x =
        let u = m.span / (r * len) in
        let all : m.span ≡ len * (r * u) = sym (times_quotient (r * len) m.span z) ∙ inner_first r len u in
        ap (λ y. x * y) (ap (λ y. y / len) all ∙ mul-div_right (r * u) part_above_zero) ∙ steps_of_part x r u

    -- turned in tone k mod len of part q, and then with that part
    sample_turned : (x : A) (q i k : ℕ) →
        m.turn (m.turn x (parts m len (i * (k % len)))) (parts m (r * len) (q * k)) ≡ m.turn x (parts m (r * len) ((q + r * i) * k))
    sample_turned x q i k =
        let n = r * len in
        let e = parts m n (q * k) in
        m.turn (m.turn x (parts m len (i * (k % len)))) e ≡⟨ ap (λ y. m.turn y e) (turn_congruent law len part_divides x (i * (k % len)) (i * k) (mul_remainder i k len)) ⟩
        m.turn (m.turn x (parts m len (i * k))) e ≡⟨ ap (λ y. m.turn (m.turn x y) e) (parts_within (i * k)) ⟩
        m.turn (m.turn x (parts m n (r * (i * k)))) e ≡⟨ turn_parts law x n (r * (i * k)) (q * k) ⟩
        m.turn x (parts m n (r * (i * k) + q * k)) ≡⟨ ap (λ y. m.turn x (parts m n y)) (steps_of_both q r i k) ⟩
        m.turn x (parts m n ((q + r * i) * k)) ∎

    -- the tones of the parts, combined: those of part q have the values of the sums of samples q, q + r, ..
    module _ (f : ℕ → A) (done : ℕ → List A) (k : ℕ) (wide : (q : ℕ) → length (done q) ≡ len)
        (tone_of : (q : ℕ) → m.value (sample m (done q) (k % len)) ≡ tone_total m len (λ i. f (q + r * i)) (k % len)) where
      block : List A
      block = flat_map done (range_with_len 0 r)

      part_tone_at : (q : ℕ) → q < r → sample m block (q * len + k % len) ≡ sample m (done q) (k % len)
      unfolding block
      part_tone_at q l =
          joined_at done len wide m.zero r 0 q (k % len) l (mod-lt k part_above_zero) ∙ ap (λ x. sample m (done x) (k % len)) (zero-add q)

      part_tone_turned : (q : ℕ) → q < r →
          m.turn (sample m block (q * len + k % len)) (parts m (r * len) (q * k)) ≡ total m (λ i. m.turn (f (q + r * i)) (parts m (r * len) ((q + r * i) * k))) len
      part_tone_turned q l =
          let n = r * len in
          let e = parts m n (q * k) in
          m.turn (sample m block (q * len + k % len)) e ≡⟨ ap (λ x. m.turn x e) (part_tone_at q l) ⟩
          m.turn (sample m (done q) (k % len)) e ≡⟨ sym (law.every.turn_of_value _ e) ∙ ap (λ x. m.turn x e) (tone_of q) ⟩
          m.turn (tone_total m len (λ i. f (q + r * i)) (k % len)) e ≡⟨ turn_of_total law (λ i. m.turn (f (q + r * i)) (parts m len (i * (k % len)))) e len ⟩
          total m (λ i. m.turn (m.turn (f (q + r * i)) (parts m len (i * (k % len)))) e) len ≡⟨ total_same law len (λ i _. sample_turned (f (q + r * i)) q i k) ⟩
          total m (λ i. m.turn (f (q + r * i)) (parts m n ((q + r * i) * k))) len ∎

      tone_at : k < r * len → sample m (combine m r len block) k ≡ series m (term m r len block k) r
      unfolding combine tone
      tone_at h = at_place m.zero (tone m r len block) (r * len) k h

      combined_total : k < r * len → m.value (sample m (combine m r len block) k) ≡ tone_total m (r * len) f k
      combined_total h =
          let n = r * len in
          let x : ℕ → A = λ q. sample m block (q * len + k % len) in
          m.value (sample m (combine m r len block) k) ≡⟨ ap m.value (tone_at h ∙ series_turned law n z x (λ q. q * k) r) ⟩
          m.value (total m (λ q. m.turn (x q) (parts m n (q * k))) r) ≡⟨ total_reduced law _ r ⟩
          total m (λ q. m.turn (x q) (parts m n (q * k))) r ≡⟨ total_same law r part_tone_turned ⟩
          total m (λ q. total m (λ i. m.turn (f (q + r * i)) (parts m n ((q + r * i) * k))) len) r ≡⟨ sym (total_by_remainders law (λ t. m.turn (f t) (parts m n (t * k))) r len) ⟩
          tone_total m n f k ∎

  tones_total : (rs : List ℕ) (a : List A) (k : ℕ) → Divides (size rs) m.span → length a ≡ size rs → k < size rs →
      m.value (sample m (tones m rs a) k) ≡ tone_total m (size rs) (sample m a) k
  unfolding tones block
  tones_total [] a k z long h =
      let none : k ≡ 0 = omega arith in
      ap (λ x. m.value (sample m a x)) none ∙ sym (tone_total_one (sample m a) k z)
  tones_total (r ∷ rs) a k z long h =
      let len = size rs in
      let part : ℕ → List A = every m.zero r len a in
      let wide : (q : ℕ) → length (part q) ≡ len = length_every m.zero r len a in
      combined_total r len z (sample m a) (λ q. tones m rs (part q)) k (λ q. length_tones m rs (part q) (wide q))
      (λ q.
      tones_total rs (part q) (k % len) (part_divides r len z) (wide q) (mod-lt k (part_above_zero r len z))
      ∙ tone_total_same len (k % len) (λ i l. at_place m.zero (λ j. sample m a (q + r * j)) len i l))
      h

  pub all_plans_agree : AllPlansAgree m
  all_plans_agree rs a z long =
      tones_by_place m a (size rs) long (tones m rs a) (length_tones m rs a long)
      (λ k h. tones_total rs a k z long h ∙ sym (defining_total a (size rs) k long z))

  -- a tone turned, by its sum
  pub turn_of_tone : (a x : List A) → Divides (length a) m.span → TonesOf m a x → (k e : ℕ) → k < length a →
      m.turn (sample m x k) e ≡ m.turn (tone_total m (length a) (sample m a) k) e
  turn_of_tone a x z is k e l =
      m.turn (sample m x k) e ≡⟨ sym (law.every.turn_of_value (sample m x k) e) ⟩
      m.turn (m.value (sample m x k)) e ≡⟨ ap (λ y. m.turn y e) (value_of_tone m a x is k l ∙ defining_total a (length a) k refl z) ⟩
      m.turn (tone_total m (length a) (sample m a) k) e ∎

  -- the defining sums are tones themselves
  pub spectrum_is_tones : (a : List A) → Divides (length a) m.span → TonesOf m a (spectrum m a)
  unfolding spectrum
  spectrum_is_tones a z =
      let n = length a in
      tones_by_place m a n refl (spectrum m a) (length-map-range_with_len (defining m a) 0 n)
      (λ k l.
      let is = defining_total a n k refl z in
      ap m.value (at_place m.zero (defining m a) n k l ∙ is) ∙ total_reduced law _ n ∙ sym is)

-- The tones of samples that are edited, shifted, mirrored or laid upon, from the tones before.
use Rattle.std.proofs.Common.{◌≡◌, ℕ, ◌+◌, ◌-◌, ◌*◌, ◌/◌, ◌%◌, ◌<◌, ◌≤◌, List, map, length, set, sym, refl, ap, ◌∙◌, mod-lt, arith}
use mathlib.Core.Path.{◌≡⟨◌⟩◌, ◌∎}
use native.Mathlib.Nat.{mod-mod}
use Rattle.std.specs.List.{range_with_len}
use Rattle.std.proofs.lemmas.List.{get_or-set_same, get_or-set_other, length-set}
use Rattle.arithmetic.specs.Meaning.{Meaning}
use Rattle.arithmetic.specs.Laws.{Divides}
use Rattle.arithmetic.proofs.Ladder.{ExactLaws}
use Rattle.arithmetic.proofs.Totals.{total, total_same, total_sum, total_changed, sum_of_left_value}
use Rattle.arithmetic.proofs.Circles.{total_shifted, total_mirrored}
use Rattle.arithmetic.proofs.Divisors.{divisor_above_zero}
use Rattle.arithmetic.proofs.Remainders.{mul_remainder, mul_congruent, on_and_back, mul_mirrored}
use Rattle.arithmetic.proofs.Turns.{parts, turn_remainder, turn_congruent}
use Rattle.spectra.specs.Spectra.{defining, spectrum}
use Rattle.spectra.specs.SpectraLaws.{TonesOf}
use Rattle.spectra.specs.Moves.{shifted, mirrored, laid}
use Rattle.spectra.proofs.Moves.{length_shifted, shifted_at, length_mirrored, mirrored_at, length_laid, laid_at}
use Rattle.spectra.proofs.SpectraByPlace.{sample, spectrum_by_place, tones_by_place, as_many_tones, value_of_tone}
use Rattle.spectra.proofs.DefiningSums.{tone_total, defining_total, tone_total_same, turn_of_tone_total}

module _ {A R : Type 0} {m : Meaning A R} (law : ExactLaws m) where
  turn_of_difference : (v old : A) (e : ℕ) → m.turn v e ≡ m.sum (m.turn (m.difference v old) e) (m.turn old e)
  turn_of_difference v old e =
      m.turn v e ≡⟨ sym (law.every.turn_of_value v e) ⟩
      m.turn (m.value v) e ≡⟨ ap (λ x. m.turn x e) (sym (law.exact.difference_sum v old)) ⟩
      m.turn (m.sum (m.difference v old) old) e ≡⟨ law.exact.turn_sum (m.difference v old) old e ⟩
      m.sum (m.turn (m.difference v old) e) (m.turn old e) ∎

  -- g is f but at i
  tone_total_edited : (f g : ℕ → A) (n i k : ℕ) → i < n → ((t : ℕ) → t < n → (t ≡ i → ⊥) → g t ≡ f t) →
      tone_total m n g k ≡ m.sum (m.turn (m.difference (g i) (f i)) (parts m n (i * k))) (tone_total m n f k)
  tone_total_edited f g n i k h others =
      let e : ℕ → ℕ = λ t. parts m n (t * k) in
      total_changed law (λ t. m.turn (f t) (e t)) (λ t. m.turn (g t) (e t)) (m.turn (m.difference (g i) (f i)) (e i)) n i h
      (λ t l other. ap (λ x. m.turn x (e t)) (others t l other))
      (law.every.turn_reduced (g i) (e i) ∙ turn_of_difference (g i) (f i) (e i))

  tone_total_laid : (f g : ℕ → A) (n k : ℕ) → tone_total m n (λ t. m.sum (f t) (g t)) k ≡ m.sum (tone_total m n f k) (tone_total m n g k)
  tone_total_laid f g n k =
      let x : ℕ → A = λ t. m.turn (f t) (parts m n (t * k)) in
      let y : ℕ → A = λ t. m.turn (g t) (parts m n (t * k)) in
      total_same law n (λ t _. law.exact.turn_sum (f t) (g t) (parts m n (t * k))) ∙ total_sum law x y n

  module _ (n : ℕ) (z : Divides n m.span) where
    tone_total_shifted : (f : ℕ → A) (h k : ℕ) → h ≤ n → m.turn (tone_total m n f k) (parts m n ((n - h) * k)) ≡ tone_total m n (λ t. f ((t + h) % n)) k
    tone_total_shifted f h k l =
        let b = n - h in
        let g : ℕ → A = λ t. m.turn (f t) (parts m n ((t + b) * k)) in
        let v : ℕ → ℕ = λ t. (t + h) % n in
        let same : (t : ℕ) → ((v t + b) * k) % n ≡ (t * k) % n = λ t. mul_congruent (v t + b) t k n (on_and_back h t n l) in
        m.turn (tone_total m n f k) (parts m n (b * k)) ≡⟨ turn_of_tone_total law f n k b ⟩
        total m g n ≡⟨ sym (total_shifted law g n h l) ⟩
        total m (λ t. g (v t)) n ≡⟨ total_same law n (λ t _. turn_congruent law n z (f (v t)) ((v t + b) * k) (t * k) (same t)) ⟩
        tone_total m n (λ t. f (v t)) k ∎

    tone_total_mirrored : (f : ℕ → A) (k : ℕ) → k ≤ n → tone_total m n f ((n - k) % n) ≡ tone_total m n (λ t. f ((n - t) % n)) k
    tone_total_mirrored f k l =
        let b = (n - k) % n in
        let g : ℕ → A = λ t. m.turn (f t) (parts m n (t * b)) in
        let v : ℕ → ℕ = λ t. (n - t) % n in
        let same : (t : ℕ) → t < n → (v t * b) % n ≡ (t * k) % n = λ t h.
        mul_remainder (v t) (n - k) n ∙ mul_congruent (v t) (n - t) (n - k) n (mod-mod (n - t) n) ∙ mul_mirrored t k n (omega arith) l in
        total m g n ≡⟨ sym (total_mirrored law g n (divisor_above_zero n m.span law.every.span_above_zero z)) ⟩
        total m (λ t. g (v t)) n ≡⟨ total_same law n (λ t h. turn_congruent law n z (f (v t)) (v t * b) (t * k) (same t h)) ⟩
        tone_total m n (λ t. f (v t)) k ∎

  -- one tone k of the samples a
  module _ (a : List A) (z : Divides (length a) m.span) (k : ℕ) (tone : A) (is : m.value tone ≡ defining m a k) where
    tone_is_total : m.value tone ≡ tone_total m (length a) (sample m a) k
    tone_is_total = is ∙ defining_total law a (length a) k refl z

    -- sample i made v
    pub edited_tone : (i : ℕ) (v : A) → i < length a →
        m.sum tone (m.turn (m.difference v (sample m a i)) (((i * k) % length a) * (m.span / length a))) ≡ defining m (set a i v) k
    edited_tone i v h =
        let n = length a in
        let b = set a i v in
        let now : v ≡ sample m b i = sym (get_or-set_same a i v m.zero h) in
        let change = m.turn (m.difference (sample m b i) (sample m a i)) (parts m n (i * k)) in
        m.sum tone (m.turn (m.difference v (sample m a i)) (parts m n ((i * k) % n))) ≡⟨ ap (m.sum tone) (turn_remainder law n z _ (i * k)) ⟩
        m.sum tone (m.turn (m.difference v (sample m a i)) (parts m n (i * k))) ≡⟨ ap (λ x. m.sum tone (m.turn (m.difference x (sample m a i)) (parts m n (i * k)))) now ⟩
        m.sum tone change ≡⟨ sym (sum_of_left_value law tone change) ∙ ap (λ x. m.sum x change) tone_is_total ⟩
        m.sum (tone_total m n (sample m a) k) change ≡⟨ law.exact.sum_comm _ change ⟩
        m.sum change (tone_total m n (sample m a) k) ≡⟨ sym (tone_total_edited (sample m a) (sample m b) n i k h (λ t _ other. get_or-set_other a i t v m.zero other)) ⟩
        tone_total m n (sample m b) k ≡⟨ sym (defining_total law b n k (length-set a i v) z) ⟩
        defining m b k ∎

    -- sample t made the old sample (t + h) mod N
    pub shifted_tone : (h : ℕ) → h ≤ length a →
        m.turn tone ((((length a - h) * k) % length a) * (m.span / length a)) ≡ defining m (shifted m.zero h a) k
    shifted_tone h l =
        let n = length a in
        let e = parts m n ((n - h) * k) in
        m.turn tone (parts m n (((n - h) * k) % n)) ≡⟨ turn_remainder law n z tone ((n - h) * k) ∙ sym (law.every.turn_of_value tone e) ⟩
        m.turn (m.value tone) e ≡⟨ ap (λ x. m.turn x e) tone_is_total ∙ tone_total_shifted n z (sample m a) h k l ⟩
        tone_total m n (λ t. sample m a ((t + h) % n)) k ≡⟨ tone_total_same law n k (λ t inside. sym (shifted_at m.zero h a n t refl inside)) ⟩
        tone_total m n (sample m (shifted m.zero h a)) k ≡⟨ sym (defining_total law (shifted m.zero h a) n k (length_shifted m.zero h a) z) ⟩
        defining m (shifted m.zero h a) k ∎

    -- the samples of b, with tone k more, laid on those of a
    pub laid_tone : (b : List A) (more : A) → length b ≡ length a → m.value more ≡ defining m b k → m.sum tone more ≡ defining m (laid m a b) k
    laid_tone b more long adds =
        let n = length a in
        m.sum tone more ≡⟨ sym (law.every.sum_of_values tone more) ⟩
        m.sum (m.value tone) (m.value more) ≡⟨ ap (λ x. m.sum x (m.value more)) tone_is_total ∙ ap (m.sum _) (adds ∙ defining_total law b n k long z) ⟩
        m.sum (tone_total m n (sample m a) k) (tone_total m n (sample m b) k) ≡⟨ sym (tone_total_laid (sample m a) (sample m b) n k) ⟩
        tone_total m n (λ t. m.sum (sample m a t) (sample m b t)) k ≡⟨ tone_total_same law n k (λ t inside. sym (laid_at m a b n t refl inside)) ⟩
        tone_total m n (sample m (laid m a b)) k ≡⟨ sym (defining_total law (laid m a b) n k (length_laid m a b) z) ⟩
        defining m (laid m a b) k ∎

  -- tone k of the mirrored samples is tone (N - k) mod N of the samples
  pub mirrored_tone : (a : List A) → Divides (length a) m.span → (k : ℕ) → k ≤ length a →
      defining m a ((length a - k) % length a) ≡ defining m (mirrored m.zero a) k
  mirrored_tone a z k l =
      let n = length a in
      defining m a ((n - k) % n) ≡⟨ defining_total law a n ((n - k) % n) refl z ∙ tone_total_mirrored n z (sample m a) k l ⟩
      tone_total m n (λ t. sample m a ((n - t) % n)) k ≡⟨ tone_total_same law n k (λ t inside. sym (mirrored_at m.zero a n t refl inside)) ⟩
      tone_total m n (sample m (mirrored m.zero a)) k ≡⟨ sym (defining_total law (mirrored m.zero a) n k (length_mirrored m.zero a) z) ⟩
      defining m (mirrored m.zero a) k ∎

  -- all tones y of the samples a
  module _ (a y : List A) (z : Divides (length a) m.span) (is : TonesOf m a y) where
    pub edited_tones : (i : ℕ) (v : A) → i < length a →
        map (λ k. m.sum (sample m y k) (m.turn (m.difference v (sample m a i)) (((i * k) % length a) * (m.span / length a)))) (range_with_len 0 (length a)) ≡ spectrum m (set a i v)
    edited_tones i v h =
        spectrum_by_place m (set a i v) (length a) (length-set a i v) _
        (λ k l. edited_tone a z k (sample m y k) (value_of_tone m a y is k l) i v h)

    pub shifted_tones : (h : ℕ) → h ≤ length a →
        map (λ k. m.turn (sample m y k) ((((length a - h) * k) % length a) * (m.span / length a))) (range_with_len 0 (length a)) ≡ spectrum m (shifted m.zero h a)
    shifted_tones h inside =
        spectrum_by_place m (shifted m.zero h a) (length a) (length_shifted m.zero h a) _
        (λ k l. shifted_tone a z k (sample m y k) (value_of_tone m a y is k l) h inside)

    pub mirrored_tones : TonesOf m (mirrored m.zero a) (mirrored m.zero y)
    mirrored_tones =
        let n = length a in
        let many = as_many_tones m a y is in
        tones_by_place m (mirrored m.zero a) n (length_mirrored m.zero a) (mirrored m.zero y) (length_mirrored m.zero y ∙ many)
        (λ k l.
        ap m.value (mirrored_at m.zero y n k many l)
        ∙ value_of_tone m a y is ((n - k) % n) (mod-lt (n - k) (omega arith)) ∙ mirrored_tone a z k (omega arith))

    pub laid_tones : (b w : List A) → length b ≡ length a → TonesOf m b w → laid m y w ≡ spectrum m (laid m a b)
    unfolding laid
    laid_tones b w long adds =
        rw (as_many_tones m a y is)
        (spectrum_by_place m (laid m a b) (length a) (length_laid m a b) (λ k. m.sum (sample m y k) (sample m w k))
        (λ k l. laid_tone a z k (sample m y k) (value_of_tone m a y is k l) b (sample m w k) long (value_of_tone m b w adds k (omega arith))))

-- The product of two spectra is the spectrum of the cyclic convolution.
--
-- The product of tones k of a and b is the sum over s and v of a_s b_v turned by (s + v) k N-th parts of a circle. For
-- each s the places v are taken from (t - s) mod N instead, which goes round the same circle; then a_s b_v is turned by t k
-- parts, and the sum over s of these is what place t of the convolution gives to its tone k.
use Rattle.std.proofs.Common.{◌≡◌, ℕ, ◌+◌, ◌-◌, ◌*◌, ◌%◌, ◌<◌, ◌≤◌, List, map, length, sym, refl, ap, ◌∙◌, arith}
use mathlib.Core.Path.{◌≡⟨◌⟩◌, ◌∎}
use Rattle.std.proofs.lemmas.List.FromFn.{length-map-range_with_len}
use Rattle.arithmetic.specs.Meaning.{Meaning}
use Rattle.arithmetic.specs.Laws.{Divides}
use Rattle.arithmetic.proofs.Ladder.{FullLaws}
use Rattle.arithmetic.proofs.Totals.{total, total_reduced, total_same, total_swap, turn_of_total, product_of_total_left, product_of_total_right, series_total}
use Rattle.arithmetic.proofs.Circles.{total_shifted}
use Rattle.arithmetic.proofs.Remainders.{mul_congruent, back_and_on}
use Rattle.arithmetic.proofs.Turns.{parts, turn_parts, turn_congruent}
use Rattle.plan.specs.Radices.{size}
use Rattle.spectra.specs.Tones.{tones}
use Rattle.spectra.specs.Spectra.{defining, inverse, spectra_product, convolution_sum, convolution}
use Rattle.spectra.specs.SpectraLaws.{ProductIsConvolution, ConvolutionBySpectra}
use Rattle.spectra.specs.Moves.{mirrored}
use Rattle.spectra.proofs.ByPlace.{at_place, map_by_place}
use Rattle.spectra.proofs.SpectraByPlace.{sample, spectrum_by_place, as_many_tones, value_of_tone}
use Rattle.spectra.proofs.DefiningSums.{tone_total, defining_total, tone_total_same, all_plans_agree}
use Rattle.spectra.proofs.Restoring.{inverse_by_tones, inverse_restores}

-- samples s of f and v of g in the product of tones k
abbrev product_term : {A R : Type 0} → Meaning A R → ℕ → (ℕ → A) → (ℕ → A) → ℕ → ℕ → ℕ → A
product_term m n f g k s v = m.turn (m.product (f s) (g v)) (parts m n ((s + v) * k))

-- place t of the cyclic convolution, as a sum from zero on
abbrev convolved : {A R : Type 0} → Meaning A R → ℕ → (ℕ → A) → (ℕ → A) → ℕ → A
convolved m n f g t = total m (λ s. m.product (f s) (g ((t + (n - s)) % n))) n

steps_of_both : (s v k : ℕ) → v * k + s * k ≡ (s + v) * k
steps_of_both s v k = omega arith

module _ {A R : Type 0} {m : Meaning A R} (law : FullLaws m) where
  product_turned : (f g : ℕ → A) (n k s v : ℕ) → m.product (m.turn (f s) (parts m n (s * k))) (m.turn (g v) (parts m n (v * k))) ≡ product_term m n f g k s v
  product_turned f g n k s v =
      let e = parts m n (s * k) in
      let d = parts m n (v * k) in
      let p = m.product (f s) (g v) in
      m.product (m.turn (f s) e) (m.turn (g v) d) ≡⟨ law.full.product_turn_left (f s) (m.turn (g v) d) e ⟩
      m.turn (m.product (f s) (m.turn (g v) d)) e ≡⟨ ap (λ x. m.turn x e) (law.full.product_turn_right (f s) (g v) d) ⟩
      m.turn (m.turn p d) e ≡⟨ turn_parts law.exactly p n (v * k) (s * k) ⟩
      m.turn p (parts m n (v * k + s * k)) ≡⟨ ap (λ x. m.turn p (parts m n x)) (steps_of_both s v k) ⟩
      m.turn p (parts m n ((s + v) * k)) ∎

  product_of_tones : (f g : ℕ → A) (n k : ℕ) →
      m.product (tone_total m n f k) (tone_total m n g k) ≡ total m (λ s. total m (product_term m n f g k s) n) n
  product_of_tones f g n k =
      let exact = law.exactly in
      let x : ℕ → A = λ s. m.turn (f s) (parts m n (s * k)) in
      let y : ℕ → A = λ v. m.turn (g v) (parts m n (v * k)) in
      m.product (total m x n) (total m y n) ≡⟨ product_of_total_left law x (total m y n) n ⟩
      total m (λ s. m.product (x s) (total m y n)) n ≡⟨ total_same exact n (λ s _. product_of_total_right law (x s) y n) ⟩
      total m (λ s. total m (λ v. m.product (x s) (y v)) n) n ≡⟨ total_same exact n (λ s _. total_same exact n (λ v _. product_turned f g n k s v)) ⟩
      total m (λ s. total m (product_term m n f g k s) n) n ∎

  module _ (n : ℕ) (z : Divides n m.span) (f g : ℕ → A) (k : ℕ) where
    -- for one sample s of f, the samples of g in the order in which the places of the convolution take them
    round_from : (s : ℕ) → s ≤ n →
        total m (λ t. m.turn (m.product (f s) (g ((t + (n - s)) % n))) (parts m n (t * k))) n ≡ total m (product_term m n f g k s) n
    round_from s h =
        let exact = law.exactly in
        let v : ℕ → ℕ = λ t. (t + (n - s)) % n in
        let p : ℕ → A = λ t. m.product (f s) (g (v t)) in
        let same : (t : ℕ) → (t * k) % n ≡ ((s + v t) * k) % n = λ t. mul_congruent t (s + v t) k n (sym (back_and_on s t n h)) in
        total m (λ t. m.turn (p t) (parts m n (t * k))) n ≡⟨ total_same exact n (λ t _. turn_congruent exact n z (p t) (t * k) ((s + v t) * k) (same t)) ⟩
        total m (λ t. product_term m n f g k s (v t)) n ≡⟨ total_shifted exact (product_term m n f g k s) n (n - s) (omega arith) ⟩
        total m (product_term m n f g k s) n ∎

    tone_of_convolved : tone_total m n (convolved m n f g) k ≡ m.product (tone_total m n f k) (tone_total m n g k)
    tone_of_convolved =
        let exact = law.exactly in
        let p : ℕ → ℕ → A = λ t s. m.product (f s) (g ((t + (n - s)) % n)) in
        let h : ℕ → ℕ → A = λ t s. m.turn (p t s) (parts m n (t * k)) in
        total m (λ t. m.turn (total m (p t) n) (parts m n (t * k))) n ≡⟨ total_same exact n (λ t _. turn_of_total exact (p t) (parts m n (t * k)) n) ⟩
        total m (λ t. total m (h t) n) n ≡⟨ total_swap exact h n n ⟩
        total m (λ s. total m (λ t. h t s) n) n ≡⟨ total_same exact n (λ s l. round_from s (omega arith)) ⟩
        total m (λ s. total m (product_term m n f g k s) n) n ≡⟨ sym (product_of_tones f g n k) ⟩
        m.product (tone_total m n f k) (tone_total m n g k) ∎

  module _ (a b : List A) where
    length_convolution : length (convolution m a b) ≡ length a
    unfolding convolution
    length_convolution = length-map-range_with_len (convolution_sum m a b) 0 (length a)

    convolution_at : (t : ℕ) → t < length a → sample m (convolution m a b) t ≡ convolved m (length a) (sample m a) (sample m b) t
    unfolding convolution convolution_sum
    convolution_at t h =
        at_place m.zero (convolution_sum m a b) (length a) t h
        ∙ series_total law.exactly _ (length a) (λ s. law.exactly.every.product_reduced (sample m a s) (sample m b ((t + (length a - s)) % length a)))

    convolution_reduced : map m.value (convolution m a b) ≡ convolution m a b
    unfolding convolution
    convolution_reduced =
        let c = convolution m a b in
        map_by_place m.zero m.value (convolution_sum m a b) c (length a) length_convolution
        (λ t h. ap m.value (convolution_at t h) ∙ total_reduced law.exactly _ (length a) ∙ sym (convolution_at t h)
        ∙ at_place m.zero (convolution_sum m a b) (length a) t h)

    tone_of_convolution : Divides (length a) m.span → (k : ℕ) →
        defining m (convolution m a b) k ≡ m.product (tone_total m (length a) (sample m a) k) (tone_total m (length a) (sample m b) k)
    tone_of_convolution z k =
        let exact = law.exactly in
        let n = length a in
        defining m (convolution m a b) k ≡⟨ defining_total exact (convolution m a b) n k length_convolution z ⟩
        tone_total m n (sample m (convolution m a b)) k ≡⟨ tone_total_same exact n k convolution_at ⟩
        tone_total m n (convolved m n (sample m a) (sample m b)) k ≡⟨ tone_of_convolved n z (sample m a) (sample m b) k ⟩
        m.product (tone_total m n (sample m a) k) (tone_total m n (sample m b) k) ∎

  pub product_is_convolution : ProductIsConvolution m
  unfolding spectra_product
  product_is_convolution a b x y z long is_x is_y =
      let exact = law.exactly in
      let n = length a in
      let tone_x : (k : ℕ) → k < n → m.value (sample m x k) ≡ tone_total m n (sample m a) k = λ k l. value_of_tone m a x is_x k l ∙ defining_total exact a n k refl z in
      let tone_y : (k : ℕ) → k < n → m.value (sample m y k) ≡ tone_total m n (sample m b) k = λ k l. value_of_tone m b y is_y k (omega arith) ∙ defining_total exact b n k long z in
      rw (as_many_tones m a x is_x)
      (spectrum_by_place m (convolution m a b) n (length_convolution a b) (λ k. m.product (sample m x k) (sample m y k))
      (λ k l.
      sym (exact.every.product_of_values (sample m x k) (sample m y k))
      ∙ ap (λ w. m.product w (m.value (sample m y k))) (tone_x k l) ∙ ap (m.product (tone_total m n (sample m a) k)) (tone_y k l)
      ∙ sym (tone_of_convolution a b z k)))

  module _ (x y : List A) where
    length_product : length (spectra_product m x y) ≡ length x
    unfolding spectra_product
    length_product = length-map-range_with_len (λ k. m.product (sample m x k) (sample m y k)) 0 (length x)

    product_reduced : map m.value (spectra_product m x y) ≡ spectra_product m x y
    unfolding spectra_product
    product_reduced =
        let tone : ℕ → A = λ k. m.product (sample m x k) (sample m y k) in
        map_by_place m.zero m.value tone (spectra_product m x y) (length x) length_product
        (λ k l. ap m.value (at_place m.zero tone (length x) k l) ∙ law.exactly.every.product_reduced (sample m x k) (sample m y k))

  pub convolution_by_spectra : ConvolutionBySpectra m
  convolution_by_spectra a b x y z long is_x is_y =
      let c = convolution m a b in
      let z' : Divides (length c) m.span = rw (length_convolution a b) z in
      let tones_c = product_reduced x y ∙ product_is_convolution a b x y z long is_x is_y in
      inverse m (spectra_product m x y) ≡⟨ inverse_restores law c (spectra_product m x y) z' tones_c ⟩
      map m.value c ≡⟨ convolution_reduced a b ⟩
      c ∎

  -- under any radices: the tones of both lists multiplied, and the inverse of that by the transform
  pub convolution_by_tones : (rs : List ℕ) (a b : List A) → Divides (size rs) m.span → length a ≡ size rs → length b ≡ size rs →
      map (λ w. m.part w (size rs)) (mirrored m.zero (tones m rs (spectra_product m (tones m rs a) (tones m rs b)))) ≡ convolution m a b
  convolution_by_tones rs a b z long_a long_b =
      let exact = law.exactly in
      let x = tones m rs a in
      let y = tones m rs b in
      let is_x = all_plans_agree exact rs a z long_a in
      let is_y = all_plans_agree exact rs b z long_b in
      let z' : Divides (length a) m.span = rw long_a z in
      inverse_by_tones exact rs (spectra_product m x y) z (length_product x y ∙ as_many_tones m a x is_x ∙ long_a)
      ∙ convolution_by_spectra a b x y z' (long_b ∙ sym long_a) is_x is_y

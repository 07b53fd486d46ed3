-- Spectra and tones, place by place.
use Rattle.std.proofs.Common.{◌≡◌, ℕ, ◌*◌, ◌/◌, ◌%◌, ◌<◌, List, map, length, get_or, sym, ap, ◌∙◌, arith}
use mathlib.Core.Path.{◌≡⟨◌⟩◌, ◌∎}
use Rattle.std.specs.List.{range_with_len}
use Rattle.std.proofs.lemmas.List.{get_or-map, length-map}
use Rattle.std.proofs.lemmas.List.FromFn.{length-map-range_with_len}
use Rattle.arithmetic.specs.Meaning.{Meaning}
use Rattle.arithmetic.specs.Laws.{Every}
use Rattle.arithmetic.proofs.Series.{series_same}
use Rattle.spectra.specs.Spectra.{defining, spectrum}
use Rattle.spectra.specs.SpectraLaws.{TonesOf}
use Rattle.spectra.proofs.ByPlace.{at_place, same_by_place, map_by_place}

-- a list's samples by their places
abbrev pub sample : {A R : Type 0} → Meaning A R → List A → ℕ → A
sample m a t = get_or a t m.zero

-- tones given one by one
module _ {A R : Type 0} (m : Meaning A R) (a : List A) (n : ℕ) (long : length a ≡ n) where
  pub spectrum_by_place : (f : ℕ → A) → ((k : ℕ) → k < n → f k ≡ defining m a k) → map f (range_with_len 0 n) ≡ spectrum m a
  unfolding spectrum
  spectrum_by_place f each = rw long (same_by_place m.zero f (defining m a) n each)

  pub tones_by_place : (x : List A) → length x ≡ n → ((k : ℕ) → k < n → m.value (sample m x k) ≡ defining m a k) → TonesOf m a x
  unfolding spectrum
  tones_by_place x many each = rw long (map_by_place m.zero m.value (defining m a) x n many each)

-- tones taken one by one
module _ {A R : Type 0} (m : Meaning A R) (a x : List A) (is : TonesOf m a x) where
  pub as_many_tones : length x ≡ length a
  unfolding spectrum
  as_many_tones = sym (length-map x m.value) ∙ ap length is ∙ length-map-range_with_len (defining m a) 0 (length a)

  pub value_of_tone : (k : ℕ) → k < length a → m.value (sample m x k) ≡ defining m a k
  unfolding spectrum
  value_of_tone k h =
      let long = as_many_tones in
      m.value (sample m x k) ≡⟨ sym (get_or-map m.value x k m.zero m.zero (omega arith)) ⟩
      sample m (map m.value x) k ≡⟨ ap (λ y. sample m y k) is ⟩
      sample m (spectrum m a) k ≡⟨ at_place m.zero (defining m a) (length a) k h ⟩
      defining m a k ∎

-- samples with the same values have the same spectrum
module _ {A R : Type 0} {m : Meaning A R} (laws : Every m) (a b : List A) (same : map m.value a ≡ map m.value b) where
  as_many_samples : length b ≡ length a
  as_many_samples = sym (length-map b m.value) ∙ ap length (sym same) ∙ length-map a m.value

  same_value_at : (t : ℕ) → t < length a → m.value (sample m a t) ≡ m.value (sample m b t)
  same_value_at t l =
      let long = as_many_samples in
      m.value (sample m a t) ≡⟨ sym (get_or-map m.value a t m.zero m.zero l) ⟩
      sample m (map m.value a) t ≡⟨ ap (λ x. sample m x t) same ⟩
      sample m (map m.value b) t ≡⟨ get_or-map m.value b t m.zero m.zero (omega arith) ⟩
      m.value (sample m b t) ∎

  same_defining : (k : ℕ) → defining m a k ≡ defining m b k
  unfolding defining
  same_defining k =
      rw as_many_samples
      (series_same m _ _ (length a)
      (λ t l.
      let e = ((t * k) % length a) * (m.span / length a) in
      sym (laws.turn_of_value (sample m a t) e) ∙ ap (λ x. m.turn x e) (same_value_at t l) ∙ laws.turn_of_value (sample m b t) e))

  pub spectrum_of_values : spectrum m a ≡ spectrum m b
  unfolding spectrum
  spectrum_of_values = spectrum_by_place m b (length a) as_many_samples (defining m a) (λ k _. same_defining k)

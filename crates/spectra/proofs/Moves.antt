-- Shifted, mirrored and laid lists, place by place.
use Rattle.std.proofs.Common.{◌≡◌, ℕ, ◌+◌, ◌-◌, ◌%◌, ◌<◌, List, length, get_or, ap, ◌∙◌, arith}
use Rattle.std.proofs.lemmas.List.FromFn.{length-map-range_with_len}
use Rattle.arithmetic.specs.Meaning.{Meaning}
use Rattle.spectra.specs.Moves.{shifted, mirrored, laid}
use Rattle.spectra.proofs.ByPlace.{at_place}

module _ {A : Type 0} (d : A) where
  pub length_shifted : (h : ℕ) (a : List A) → length (shifted d h a) ≡ length a
  unfolding shifted
  length_shifted h a = length-map-range_with_len (λ t. get_or a ((t + h) % length a) d) 0 (length a)

  pub shifted_at : (h : ℕ) (a : List A) (n t : ℕ) → length a ≡ n → t < n → get_or (shifted d h a) t d ≡ get_or a ((t + h) % n) d
  unfolding shifted
  shifted_at h a n t long l =
      at_place d (λ i. get_or a ((i + h) % length a) d) (length a) t (omega arith) ∙ ap (λ x. get_or a ((t + h) % x) d) long

  pub length_mirrored : (a : List A) → length (mirrored d a) ≡ length a
  unfolding mirrored
  length_mirrored a = length-map-range_with_len (λ t. get_or a ((length a - t) % length a) d) 0 (length a)

  pub mirrored_at : (a : List A) (n t : ℕ) → length a ≡ n → t < n → get_or (mirrored d a) t d ≡ get_or a ((n - t) % n) d
  unfolding mirrored
  mirrored_at a n t long l =
      at_place d (λ i. get_or a ((length a - i) % length a) d) (length a) t (omega arith) ∙ ap (λ x. get_or a ((x - t) % x) d) long

module _ {A R : Type 0} (m : Meaning A R) where
  pub length_laid : (a b : List A) → length (laid m a b) ≡ length a
  unfolding laid
  length_laid a b = length-map-range_with_len (λ t. m.sum (get_or a t m.zero) (get_or b t m.zero)) 0 (length a)

  pub laid_at : (a b : List A) (n t : ℕ) → length a ≡ n → t < n → get_or (laid m a b) t m.zero ≡ m.sum (get_or a t m.zero) (get_or b t m.zero)
  unfolding laid
  laid_at a b n t long l = at_place m.zero (λ i. m.sum (get_or a i m.zero) (get_or b i m.zero)) (length a) t (omega arith)

-- Spectra by their definitions: what the tones under every plan, the inverse and the convolution are.
--
-- M is the arithmetic's span, and N is how many samples or tones a list has
use Rattle.std.specs.Prelude.{ℕ, ◌+◌, ◌-◌, ◌*◌, ◌/◌, ◌%◌, List, map, length, slice_index_or}
use Rattle.std.specs.List.{range_with_len}
use Rattle.arithmetic.specs.Meaning.{Meaning}
use Rattle.arithmetic.specs.Series.{series}

-- tone k of the samples a by its defining sum: over t, sample t turned by (t k mod N) M/N
unfoldable pub defining : {A R : Type 0} → Meaning A R → List A → ℕ → A
defining m a k = series m (λ t. m.turn (slice_index_or a t m.zero) (((t * k) % length a) * (m.span / length a))) (length a)

-- the spectrum of the samples a: their tones 0 to N - 1
unfoldable pub spectrum : {A R : Type 0} → Meaning A R → List A → List A
spectrum m a = map (defining m a) (range_with_len 0 (length a))

-- N times sample t of the inverse of the tones x: over k, tone k turned by ((N - t) k mod N) M/N
unfoldable pub inverse_sum : {A R : Type 0} → Meaning A R → List A → ℕ → A
inverse_sum m x t = series m (λ k. m.turn (slice_index_or x k m.zero) ((((length x - t) * k) % length x) * (m.span / length x))) (length x)

-- the samples 0 to N - 1 of the inverse
unfoldable pub inverse : {A R : Type 0} → Meaning A R → List A → List A
inverse m x = map (λ t. m.part (inverse_sum m x t) (length x)) (range_with_len 0 (length x))

-- two spectra multiplied tone by tone
unfoldable pub spectra_product : {A R : Type 0} → Meaning A R → List A → List A → List A
spectra_product m x y = map (λ k. m.product (slice_index_or x k m.zero) (slice_index_or y k m.zero)) (range_with_len 0 (length x))

-- place t of the cyclic convolution: over s, sample s of a times the sample of b at (t - s) mod N
unfoldable pub convolution_sum : {A R : Type 0} → Meaning A R → List A → List A → ℕ → A
convolution_sum m a b t = series m (λ s. m.product (slice_index_or a s m.zero) (slice_index_or b ((t + (length a - s)) % length a) m.zero)) (length a)

-- the cyclic convolution of two lists of N samples
unfoldable pub convolution : {A R : Type 0} → Meaning A R → List A → List A → List A
convolution m a b = map (convolution_sum m a b) (range_with_len 0 (length a))

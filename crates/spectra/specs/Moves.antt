-- What a shift, a mirror and a lay make of a list of N samples.
use Rattle.std.specs.Prelude.{ℕ, ◌+◌, ◌-◌, ◌%◌, List, map, length, get_or, slice_index_or}
use Rattle.std.specs.List.{range_with_len}
use Rattle.arithmetic.specs.Meaning.{Meaning}

-- sample t is the old sample (t + h) mod N; d stands for a sample that is not there
unfoldable pub shifted : {A : Type 0} → A → ℕ → List A → List A
shifted d h a = map (λ t. get_or a ((t + h) % length a) d) (range_with_len 0 (length a))

-- sample t is the old sample (N - t) mod N
unfoldable pub mirrored : {A : Type 0} → A → List A → List A
mirrored d a = map (λ t. get_or a ((length a - t) % length a) d) (range_with_len 0 (length a))

-- sample t is the sum of both lists' samples t
unfoldable pub laid : {A R : Type 0} → Meaning A R → List A → List A → List A
laid m a b = map (λ t. m.sum (slice_index_or a t m.zero) (slice_index_or b t m.zero)) (range_with_len 0 (length a))

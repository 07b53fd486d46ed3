-- The ordered sum that every definition of this repository takes its sums by.
use Rattle.std.specs.Prelude.{ℕ, zero, suc}
use Rattle.arithmetic.specs.Meaning.{Meaning}

-- f 0 + f 1 + .. + f (n - 1): it begins with f 0 and takes the others in order. Of no terms it is zero.
unfoldable pub series : {A R : Type 0} → Meaning A R → (ℕ → A) → ℕ → A
series m f zero = m.zero
series m f (suc zero) = f 0
series m f (suc (suc n)) = m.sum (series m f (suc n)) (f (suc n))

-- The same sums in an arithmetic, and what they are read as.
use Rattle.std.specs.Prelude.{◌≡◌, ℕ, ◌+◌, ◌/◌, ◌%◌, ◌<◌, ◌≤◌, cond, List, map, length, ℤ, pos, ◌-ℤ◌, neg_ℤ, nat_lt, slice_index_or}
use Rattle.std.specs.List.{fold}
use Rattle.arithmetic.specs.Meaning.{Meaning}
use Rattle.arithmetic.specs.Series.{series}
use Rattle.path.specs.declared.Path.{Path}
use Rattle.path.specs.Paths.{modulus, sampled, paths}
use Rattle.pressure.specs.declared.Pressure.{Pressure}
use Rattle.pressure.specs.Pressures.{counted, pressures}
use Rattle.stroke.specs.Contents.{most_samples}

-- two lists of one length within a stroke's, and a lag below it
pub record Paired {A : Type 0} (a b : List A) (lag : ℕ) : Type 0 where
  pub lag_below : lag < length a
  pub same : length b ≡ length a
  pub few : length a ≤ most_samples

-- a sum with the product of each pair added, in order
abbrev pub added : {A R : Type 0} → Meaning A R → A → List (A × A) → A
added m sum pairs = fold (λ x p. m.sum x (m.product p.0 p.1)) sum pairs

-- the product that sample t gives to the sum of a lag
abbrev pub lag_term : {A R : Type 0} → Meaning A R → List A → List A → ℕ → ℕ → A
lag_term m a b lag t = m.product (slice_index_or a t m.zero) (slice_index_or b ((t + lag) % length a) m.zero)

unfoldable pub lagged : {A R : Type 0} → Meaning A R → List A → List A → ℕ → A
lagged m a b lag = series m (lag_term m a b lag) (length a)

-- a part above half the modulus stands for itself less the modulus
abbrev pub half : ℕ
half = modulus / 2

abbrev pub signed_part : ℕ → ℤ
signed_part u = cond (nat_lt half u) (pos u -ℤ pos modulus) (pos u)

abbrev pub signed_parts : Path → ℤ × ℤ
signed_parts r = (signed_part (r.u % modulus), signed_part (r.v % modulus))

-- the sum of a lag in the path arithmetic, read as whole numbers
unfoldable pub read_sum : List Path → List Path → ℕ → ℤ × ℤ
read_sum a b lag = signed_parts (lagged paths a b lag)

-- the samples of a path as elements, and their conjugates
abbrev pub entered : List (ℤ × ℤ) → List Path
entered path = map (λ p. sampled p.0 p.1) path

abbrev pub entered_conj : List (ℤ × ℤ) → List Path
entered_conj path = map (λ p. sampled p.0 (neg_ℤ p.1)) path

-- the same of pressures, which stand for themselves
abbrev pub entered_pressures : List ℕ → List Pressure
entered_pressures us = map counted us

unfoldable pub read_pressures : List Pressure → List Pressure → ℕ → ℕ
read_pressures a b lag = pressures.reading (lagged pressures a b lag)

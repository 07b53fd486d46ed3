-- The shape of the blocks that a stage combines, and what one column of such a block becomes.
use Rattle.std.specs.Prelude.{◌≡◌, ℕ, ◌+◌, ◌*◌, ◌%◌, ◌^◌, ◌<◌, ◌≤◌, List, ◌≢◌, slice_index_or}
use Rattle.arithmetic.specs.Meaning.{Meaning}
use Rattle.plan.specs.Radices.{largest_radix}
use Rattle.spectra.specs.Tones.{tone}

-- blocks of r parts with len tones each, whose size divides a circle of span steps
pub record Sound (span r len : ℕ) : Type 0 where
  pub circle : 0 < span
  pub some : 0 < r
  pub few : r ≤ largest_radix
  pub parts : 0 < len
  pub size : r * len < 2 ^ 32
  pub divides : span % (r * len) ≡ 0

-- the first n rows of column j hold their tones, and every other place is as it was
pub record Column {A R : Type 0} (m : Meaning A R) (r len : ℕ) (j n : ℕ) (before after : List A) : Type 0 where
  pub made : (i : ℕ) → i < n → slice_index_or after (i * len + j) m.zero ≡ tone m r len before (i * len + j)
  pub rest : (p : ℕ) → ((i : ℕ) → i < n → p ≢ i * len + j) → slice_index_or after p m.zero ≡ slice_index_or before p m.zero

-- Plans by the list of their radices. Assumes nothing.
--
-- radix   a factor of the length, from 2 to 8
-- size    the length N that a list of radices is for
-- turns   how many turns a transform under the plan makes
use Rattle.std.specs.Prelude.{ℕ, ◌+◌, ◌*◌, ◌<◌, ◌≤◌, List, [], ◌∷◌, length, slice_index}

-- the limits of a plan
abbrev pub most_radices : ℕ
most_radices = 9

abbrev pub least_radix : ℕ
least_radix = 2

abbrev pub largest_radix : ℕ
largest_radix = 8

abbrev pub largest_size : ℕ
largest_size = 512

-- the product of the radices
abbrev pub size : List ℕ → ℕ
size [] = 1
size (r ∷ rs) = r * size rs

-- their sum
abbrev pub radix_sum : List ℕ → ℕ
radix_sum [] = 0
radix_sum (r ∷ rs) = r + radix_sum rs

-- each stage of radix r turns every one of the N elements r times
abbrev pub turns : List ℕ → ℕ
turns rs = size rs * radix_sum rs

-- every radix is in its limits
abbrev pub Each : List ℕ → Type 0
Each rs = (i : ℕ) → i < length rs → (least_radix ≤ slice_index rs i) × (slice_index rs i ≤ largest_radix)

-- a list of radices that is a plan
pub record Plan (rs : List ℕ) : Type 0 where
  pub few : length rs ≤ most_radices
  pub each : Each rs
  pub small : size rs ≤ largest_size

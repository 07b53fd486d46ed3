-- How far the fixed tones of a path can be from its sums before rounding.
use Rattle.std.specs.Prelude.{◌≡◌, ℕ, ◌*◌, ◌<◌, ◌≤◌, List, map, length, ℤ, pos, ◌-ℤ◌, ◌*ℤ◌, Some, slice_index_or, unsigned_abs}
use Rattle.std.specs.List.{AllByRecursion}
use Rattle.arithmetic.specs.Laws.{Divides}
use Rattle.quarter.specs.Entries.{S, circle}
use Rattle.fixed.specs.declared.Fixed.{Fixed}
use Rattle.fixed.specs.Pairs.{fixed, origin, entered, units}
use Rattle.plan.specs.Radices.{size, radix_sum, turns, Plan}
use Rattle.stroke.specs.Contents.{Near as WithinLimits}
use Rattle.spectra.specs.Tones.{tones}
use Rattle.distance.specs.Sums.{sum_x, sum_y}
use Rattle.distance.specs.Checked.{checked, kept}

-- tone k of a path under a plan
abbrev pub fixed_tone : List ℕ → List (ℤ × ℤ) → ℕ → Fixed
fixed_tone rs path k = slice_index_or (tones fixed rs (entered path)) k origin

-- S v is at most 2 n S from 1,024 w
abbrev pub Within : ℕ → ℤ → ℤ → Type 0
Within n v w = unsigned_abs (pos S *ℤ v -ℤ units *ℤ w) ≤ 2 * n * S

-- what holds of a path of N samples under a plan of N
pub record NearSums (rs : List ℕ) (path : List (ℤ × ℤ)) : Type 0 where
  -- each part of a tone is within N/512 of a count of its sum
  pub x : (k : ℕ) → k < size rs → Within (size rs) (fixed_tone rs path k).x (sum_x path k)
  pub y : (k : ℕ) → k < size rs → Within (size rs) (fixed_tone rs path k).y (sum_y path k)
  -- no part of any value on the way leaves 32 bits, from the samples on
  pub in_range : tones checked rs (map kept (entered path)) ≡ map Some (tones fixed rs (entered path))
  -- the turns are N times the sum of the radices
  pub turns_made : turns rs ≡ size rs * radix_sum rs

-- of every path with its counts within their limits, and every plan of its length, where that divides the circle
abbrev pub TonesAreNearSums : Type 0
TonesAreNearSums = (rs : List ℕ) (path : List (ℤ × ℤ)) → Plan rs → length path ≡ size rs → Divides (size rs) circle → AllByRecursion WithinLimits path → NearSums rs path

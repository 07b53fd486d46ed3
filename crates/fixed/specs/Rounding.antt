-- Rounding of a product to whole units. Assumes nothing.
use Rattle.std.specs.Prelude.{ℕ, ◌/◌, ◌<◌, ℤ, pos, negsuc, ◌+ℤ◌, ◌-ℤ◌, ◌*ℤ◌, neg_ℤ, ◌≤ℤ◌, ◌<ℤ◌}
use Rattle.quarter.specs.Entries.{S}

-- z / n, rounded down
abbrev pub floor : ℤ → ℕ → ℤ
floor (pos a) n = pos (a / n)
floor (negsuc a) n = negsuc (a / n)

-- z / S, rounded to the nearest, a half upwards
unfoldable pub rounded : ℤ → ℤ
rounded z = floor (z +ℤ pos (S / 2)) S

-- r is z / n, rounded down
pub record Down (z : ℤ) (n : ℕ) (r : ℤ) : Type 0 where
  pub low : (pos n *ℤ r) ≤ℤ z
  pub high : z <ℤ (pos n *ℤ r +ℤ pos n)

abbrev pub FloorRoundsDown : Type 0
FloorRoundsDown = (z : ℤ) (n : ℕ) → 0 < n → Down z n (floor z n)

-- S r is within one half of S of z
pub record Nearest (z r : ℤ) : Type 0 where
  pub low : neg_ℤ (pos S) ≤ℤ (pos 2 *ℤ (pos S *ℤ r -ℤ z))
  pub high : (pos 2 *ℤ (pos S *ℤ r -ℤ z)) ≤ℤ pos S

-- what bounds of errors rest on, whichever way a half goes
abbrev pub RoundsToNearest : Type 0
RoundsToNearest = (z : ℤ) → Nearest z (rounded z)

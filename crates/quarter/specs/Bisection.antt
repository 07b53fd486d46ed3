-- The rule that makes the table: both ends, then each entry from the two that lie as far before and after it.
use Rattle.std.specs.Prelude.{◌≡◌, ℕ, ◌+◌, ◌-◌, ◌*◌, ◌/◌, ◌%◌, ◌<◌, ◌≤◌, List, [], ◌∷◌, pos, ◌+ℤ◌}
use Rattle.std.specs.List.{AllByRecursion}
use Rattle.quarter.specs.Entries.{S, circle, quarter, entry, onward}

-- r is the square root of n, rounded down
pub record Root (n r : ℕ) : Type 0 where
  pub low : r * r ≤ n
  pub high : n < (r + 1) * (r + 1)

-- entry j is the sum of entries j - h and j + h, brought to the length S and rounded to the nearest
pub record Bisects (h j : ℕ) : Type 0 where
  pub A : ℕ
  pub B : ℕ
  pub R : ℕ
  pub A_is : pos A ≡ (entry (j - h)).0 +ℤ (entry (j + h)).0
  pub B_is : pos B ≡ (entry (j - h)).1 +ℤ (entry (j + h)).1
  pub R_is : Root (A * A + B * B) R
  pub c_is : (entry j).0 ≡ pos ((2 * S * A + R) / (2 * R))
  pub s_is : (entry j).1 ≡ pos ((2 * S * B + R) / (2 * R))

-- at each odd multiple of h below the end of the quarter
abbrev pub BisectsBy : ℕ → Type 0
BisectsBy h = (m : ℕ) → (2 * m + 1) * h < quarter → Bisects h ((2 * m + 1) * h)

-- the steps h, in turn
abbrev pub steps : List ℕ
steps = 64 ∷ 32 ∷ 16 ∷ 8 ∷ 4 ∷ 2 ∷ 1 ∷ []

-- the whole table
pub record Circle : Type 0 where
  pub starts : entry 0 ≡ (pos S, pos 0)
  pub ends : entry quarter ≡ (pos 0, pos S)
  pub bisects : AllByRecursion BisectsBy steps
  pub goes_on : (j : ℕ) → entry (j + quarter) ≡ onward (entry j)
  pub goes_round : (e : ℕ) → entry (e % circle) ≡ entry e

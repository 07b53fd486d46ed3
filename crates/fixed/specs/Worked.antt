-- Worked cases of the fixed arithmetic.
use Rattle.std.specs.Prelude.{◌≡◌, pos, neg_ℤ}
use Rattle.quarter.specs.Entries.{entry}
use Rattle.fixed.specs.Pairs.{fixed, pair}

pub record WorkedCases : Type 0 where
  pub entry_64 : entry 64 ≡ (pos 759_250_125, pos 759_250_125)
  pub turn_by_64 : fixed.turn (pair (pos 536_870_912) (pos 0)) 64 ≡ pair (pos 379_625_063) (neg_ℤ (pos 379_625_062))

-- The fixed arithmetic in whole numbers, which nothing brings back into range.
use Rattle.std.proofs.Common.{false, ℤ}
use Rattle.arithmetic.specs.Meaning.{Meaning}
use Rattle.quarter.specs.Entries.{circle}
use Rattle.fixed.specs.declared.Fixed.{Fixed}
use Rattle.fixed.specs.Pairs.{origin}
use Rattle.fixed.specs.Range.{InRange}
use Rattle.distance.specs.Checked.{whole_sum, whole_difference, whole_turn}

abbrev pub whole : Meaning Fixed (ℤ × ℤ)
whole = record {
  value = λ a. a;
  zero = origin;
  sum = whole_sum;
  difference = whole_difference;
  turn = whole_turn;
  product = λ _ _. origin;
  part = λ _ _. origin;
  reading = λ a. (a.x, a.y);
  span = circle;
  exact = false;
  full = false;
}

-- both parts are signed numbers of 32 bits
pub record Fits (a : Fixed) : Type 0 where
  pub x : InRange a.x
  pub y : InRange a.y

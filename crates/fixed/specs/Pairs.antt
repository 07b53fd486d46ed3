-- The fixed arithmetic: pairs of 32-bit numbers in units of 1/1,024 of a count. Assumes nothing.
use Rattle.std.specs.Prelude.{◌≡◌, false, List, map, ℤ, pos, ◌+ℤ◌, ◌-ℤ◌, ◌*ℤ◌}
use Rattle.arithmetic.specs.Meaning.{Meaning}
use Rattle.quarter.specs.Entries.{circle, entry}
use Rattle.fixed.specs.declared.Fixed.{Fixed}
use Rattle.fixed.specs.Range.{into_range, InRange}
use Rattle.fixed.specs.Turning.{turned}

abbrev pub pair : ℤ → ℤ → Fixed
pair x y = record { x = x; y = y }

-- how many units make a count
abbrev pub units : ℤ
units = pos 1024

-- a path sample of whole counts
abbrev pub sampled : ℤ → ℤ → Fixed
sampled x y = pair (units *ℤ x) (units *ℤ y)

-- the samples of a path as they enter
abbrev pub entered : List (ℤ × ℤ) → List Fixed
entered path = map (λ p. sampled p.0 p.1) path

abbrev pub origin : Fixed
origin = pair (pos 0) (pos 0)

-- turns are rounded, so it is neither exact nor full, and answers zero to product and part
abbrev pub fixed : Meaning Fixed (ℤ × ℤ)
fixed = record {
  value = λ a. a;
  zero = origin;
  sum = λ a b. pair (into_range (a.x +ℤ b.x)) (into_range (a.y +ℤ b.y));
  difference = λ a b. pair (into_range (a.x -ℤ b.x)) (into_range (a.y -ℤ b.y));
  turn = λ a e. turned a (entry e);
  product = λ _ _. origin;
  part = λ _ _. origin;
  reading = λ a. (a.x, a.y);
  span = circle;
  exact = false;
  full = false;
}

-- a turn by 0 loses nothing
abbrev pub TurnsByZero : Type 0
TurnsByZero = (a : Fixed) → InRange a.x → InRange a.y → fixed.turn a 0 ≡ a

-- The fixed arithmetic with its range checked: it answers nothing where a part leaves 32 bits, and never brings one back.
use Rattle.std.specs.Prelude.{ℕ, ◌^◌, Bool, false, cond, ℤ, pos, ◌+ℤ◌, ◌-ℤ◌, neg_ℤ, Some, None, Option, int_le, int_lt}
use Rattle.arithmetic.specs.Meaning.{Meaning}
use Rattle.quarter.specs.Entries.{circle, entry}
use Rattle.fixed.specs.declared.Fixed.{Fixed}
use Rattle.fixed.specs.Pairs.{pair, origin}
use Rattle.fixed.specs.Turning.{whole_turned}

-- sum and difference as they come, in whatever range
abbrev pub whole_sum : Fixed → Fixed → Fixed
whole_sum a b = pair (a.x +ℤ b.x) (a.y +ℤ b.y)

abbrev pub whole_difference : Fixed → Fixed → Fixed
whole_difference a b = pair (a.x -ℤ b.x) (a.y -ℤ b.y)

-- and the turn, rounded
abbrev pub whole_turn : Fixed → ℕ → Fixed
whole_turn a e = whole_turned a (entry e)

-- z is a signed number of 32 bits
abbrev pub fits : ℤ → Bool
fits z = cond (int_le (neg_ℤ (pos (2 ^ 31))) z) (int_lt z (pos (2 ^ 31))) false

-- a, if both its parts fit
abbrev pub kept : Fixed → Option Fixed
kept a = cond (fits a.x) (cond (fits a.y) (Some a) None) None

-- f of what is there, and nothing where nothing is
abbrev pub of_one : (Fixed → Option Fixed) → Option Fixed → Option Fixed
of_one f None = None
of_one f (Some a) = f a

abbrev pub of_two : (Fixed → Fixed → Option Fixed) → Option Fixed → Option Fixed → Option Fixed
of_two f a b = of_one (λ p. of_one (f p) b) a

-- as the fixed arithmetic, with every sum, difference and turn kept only if it fits
abbrev pub checked : Meaning (Option Fixed) (Option Fixed)
checked = record {
  value = λ a. a;
  zero = Some origin;
  sum = of_two (λ a b. kept (whole_sum a b));
  difference = of_two (λ a b. kept (whole_difference a b));
  turn = λ a e. of_one (λ p. kept (whole_turn p e)) a;
  product = λ _ _. Some origin;
  part = λ _ _. Some origin;
  reading = λ a. a;
  span = circle;
  exact = false;
  full = false;
}

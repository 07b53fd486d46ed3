-- The fixed arithmetic, and the checked one, do as whole numbers do while they fit 32 bits.
use Rattle.std.proofs.Common.{◌≡◌, Bool, true, false, cond, T, ℤ, Some, None, refl}
use Rattle.fixed.specs.declared.Fixed.{Fixed}
use Rattle.fixed.specs.Pairs.{pair, fixed}
use Rattle.fixed.specs.Range.{into_range, InRange}
use Rattle.fixed.proofs.Turning.{into_range_same}
use Rattle.distance.specs.Checked.{fits, kept, checked}
use Rattle.distance.proofs.Whole.{Fits}
use Rattle.distance.proofs.Following.{Follows}

brought_same : (a : Fixed) → Fits a → pair (into_range a.x) (into_range a.y) ≡ a
brought_same a h = λ i. pair (into_range_same a.x h.x i) (into_range_same a.y h.y i)

pub fixed_follows : Follows fixed (λ a. a)
fixed_follows =
    record {
      zero_is = refl;
      span_is = refl;
      sum_is = λ a b. brought_same _;
      turn_is = λ a e. brought_same _;
    }

passed : (b : Bool) → T b → b ≡ true
passed true t = refl
passed false t = absurd t

fits_in_range : (z : ℤ) → InRange z → fits z ≡ true
fits_in_range z h = λ i. cond (passed _ h.low.le i) (passed _ h.high.lt i) false

pub kept_same : (a : Fixed) → Fits a → kept a ≡ Some a
kept_same a h = λ i. cond (fits_in_range a.x h.x i) (cond (fits_in_range a.y h.y i) (Some a) None) None

pub checked_follows : Follows checked Some
checked_follows =
    record {
      zero_is = refl;
      span_is = refl;
      sum_is = λ a b. kept_same _;
      turn_is = λ a e. kept_same _;
    }

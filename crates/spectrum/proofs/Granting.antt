-- What a granted stage knows of its arguments.
use Rattle.std.proofs.Common.{◌≡◌, ℕ, ◌*◌, ◌%◌, ◌^◌, ◌<◌, ◌≤◌, Ok, arith}
use native.Mathlib.Nat.{le_of_dvd, dvd_of_mod-eq-zero}
use Rattle.std.proofs.lemmas.Bool.Decides.{nat_tests}
use Rattle.arithmetic.specs.Laws.{Divides}
use Rattle.arithmetic.proofs.Divisors.{divisor_above_zero}
use Rattle.plan.specs.Radices.{least_radix, largest_radix}
use Rattle.plan.proofs.Sizes.{right_positive}
use Rattle.spectrum.specs.Shapes.{Sound}
use Rattle.spectrum.specs.Granted.{scratch, stage_suited}

-- blocks and lent memory that suit a stage
pub record StageSuited (span r len buf work : ℕ) : Type 0 where
  pub least : least_radix ≤ r
  pub most : r ≤ largest_radix
  pub divides : Divides (r * len) span
  pub whole : buf % (r * len) ≡ 0
  pub fits : buf < 2 ^ 32
  pub room : scratch ≤ work

module _ (span r len buf work : ℕ) where
  pub stage_granted : Ok tt ≡ stage_suited span r len buf work → StageSuited span r len buf work
  stage_granted is =
      record {
        least = grind (arith, nat_tests);
        most = grind (arith, nat_tests);
        divides = grind (arith, nat_tests);
        whole = grind (arith, nat_tests);
        fits = grind (arith, nat_tests);
        room = grind (arith, nat_tests);
      }

  pub suited_sound : 0 < span → span < 2 ^ 32 → StageSuited span r len buf work → Sound span r len
  suited_sound circle fits suits =
      let some = divisor_above_zero (r * len) span circle suits.divides in
      record {
        circle = circle;
        some = omega (arith, suits.least);
        few = suits.most;
        parts = right_positive r len some;
        size = omega (arith, le_of_dvd circle (dvd_of_mod-eq-zero (r * len) suits.divides));
        divides = suits.divides;
      }

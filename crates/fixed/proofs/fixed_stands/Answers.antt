use Rattle.fixed.proofs.Rounding.{floor_rounds_down, rounds_to_nearest}
use Rattle.fixed.proofs.Range.{brings_into_range}
use Rattle.fixed.proofs.Turning.{turns_by_zero}
use Rattle.fixed.proofs.fixed_stands.Goals as goal

pub returns : goal.returns
returns c = record { floor = floor_rounds_down; rounding = rounds_to_nearest; range = brings_into_range; turning = turns_by_zero }

use Rattle.std.proofs.Common.{refl}
use Rattle.std.specs.Int.{int_wrap}
use Rattle.quarter.specs.Table.{quarter_table}
use Rattle.fixed.specs.Rounding.{rounded}
use Rattle.fixed.proofs.worked_cases_stand.Goals as goal

pub returns : goal.returns
unfolding int_wrap quarter_table rounded
returns c = record { answer = record { entry_64 = refl; turn_by_64 = refl } }

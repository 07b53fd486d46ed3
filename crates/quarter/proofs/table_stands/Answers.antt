use Rattle.std.proofs.Common.{refl}
use Rattle.quarter.specs.Table.{quarter_table}
use Rattle.quarter.proofs.Bisection.{table_bisects}
use Rattle.quarter.proofs.Symmetry.{entry_onward, entry_round}
use Rattle.quarter.proofs.table_stands.Goals as goal

pub returns : goal.returns
unfolding quarter_table
returns c = record { answer = record { starts = refl; ends = refl; bisects = table_bisects; goes_on = entry_onward; goes_round = entry_round } }

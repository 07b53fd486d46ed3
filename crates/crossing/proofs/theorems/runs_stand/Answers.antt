use Rattle.crossing.proofs.Stepped.{stepped_blocks}
use Rattle.crossing.proofs.theorems.runs_stand.Goals as goal

pub returns : goal.returns
returns g c = record { answer = stepped_blocks g.X.Arithmetic.meaning }

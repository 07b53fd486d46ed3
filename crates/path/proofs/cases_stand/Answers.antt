use Rattle.std.proofs.Common.{refl}
use Rattle.path.proofs.cases_stand.Goals as goal

pub returns : goal.returns
returns c = record { answer = record { square = refl; half = refl } }

use Rattle.plan.proofs.Factoring.{standard_granted}
use Rattle.plan.proofs.theorems.standards_stand.Goals as goal

pub returns : goal.returns
returns c = standard_granted

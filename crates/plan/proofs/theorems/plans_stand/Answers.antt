use Rattle.plan.proofs.Judging.{planned_judged}
use Rattle.plan.proofs.theorems.plans_stand.Goals as goal

pub returns : goal.returns
returns c = planned_judged

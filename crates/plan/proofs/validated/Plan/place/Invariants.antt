use Rattle.plan.proofs.Places.{Placing}
use Rattle.plan.proofs.validated.Plan.place.Given as goal

abbrev pub invariant-loop-r : goal.invariant-loop-r
invariant-loop-r l = Placing l.r-items l.n l.r-index l.left l.at

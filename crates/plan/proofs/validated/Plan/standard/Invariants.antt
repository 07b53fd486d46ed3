use Rattle.plan.specs.Planned.{radices_of}
use Rattle.plan.proofs.Taking.{Taking}
use Rattle.plan.proofs.validated.Plan.standard.Given as goal

abbrev pub invariant-loop-r : goal.invariant-loop-r
invariant-loop-r l = Taking l.n l.r-index (radices_of l.plan) l.left

abbrev pub invariant-loop-left : goal.invariant-loop-left
invariant-loop-left l = Taking l.n l.r-index (radices_of l.plan) l.left

abbrev pub decreases-loop-left : goal.decreases-loop-left
decreases-loop-left l = l.left

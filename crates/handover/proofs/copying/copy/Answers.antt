use Rattle.std.proofs.Common.{sym, arith}
use Rattle.handover.proofs.Copied.{copied_more, none_there}
use Rattle.handover.proofs.copying.copy.Goals as goal
use Rattle.handover.proofs.copying.copy.Goals.{in-Some, in_default}

pub loop-i-preserved : goal.loop-i-preserved
loop-i-preserved g c =
    λ items says long.
    elim c.match-item.branch [
      | in-Some w ↦ rw w.out-is (copied_more items c.loop-i.i c.loop-i.out _ (sym (says c.loop-i.i _ w.in-Some.ensures)) (omega arith) (c.loop-i.invariant items says long))
      | in_default w ↦ absurd (none_there items c.loop-i.i (sym (says c.loop-i.i _ w.in_default.ensures)) (omega arith))
    ]

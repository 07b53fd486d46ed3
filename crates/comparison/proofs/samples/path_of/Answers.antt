use Rattle.std.proofs.Common.{sym, ◌∙◌}
use Rattle.stroke.specs.Reading.{contents}
use Rattle.comparison.proofs.Copying.{copied_more, none_more}
use Rattle.comparison.proofs.samples.path_of.Goals as goal
use Rattle.comparison.proofs.samples.path_of.Goals.{in-Some, in_default}

pub loop-i-preserved : goal.loop-i-preserved
loop-i-preserved c =
    let path = (contents c.args.stroke.now).path in
    elim c.match-path.branch [
      | in-Some w ↦ rw w.path-is (copied_more path c.loop-i.i _ c.loop-i.invariant _ _ (sym w.in-Some.ensures) w.push.ensures.items)
      | in_default w ↦ rw w.path-is (none_more path c.loop-i.i _ c.loop-i.invariant (sym c.path.ensures ∙ w.in_default.is))
    ]

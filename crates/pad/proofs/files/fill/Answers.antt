use Rattle.std.proofs.Common.{is_ok, ap, ◌∙◌}
use Rattle.quarter.specs.Entries.{circle}
use Rattle.pad.proofs.Granting.{granted_here}
use Rattle.pad.proofs.files.fill.Goals as goal

pub unwrap-requires : goal.unwrap-requires
unwrap-requires c =
    let is = granted_here c.args.plan.now c.radices.result.now circle _ _ _ c.radices.ensures.answer c.radices.ensures.plan c.enter.auto.out c.requires.granted in
    ap is_ok (c.transform.ensures.answer ∙ is)

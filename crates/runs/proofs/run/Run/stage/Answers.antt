use Rattle.std.proofs.Common.{length, is_ok, ap, ◌∙◌}
use Rattle.spectrum.specs.Granted.{stage_turned}
use Rattle.runs.proofs.Underway.{ready_granted, stage_answered}
use Rattle.runs.proofs.run.Run.stage.Goals as goal

pub unwrap-made-requires : goal.unwrap-made-requires
unwrap-made-requires g c =
    let span = g.X.Arithmetic.meaning.span in
    let run = c.args.self in
    let buf = length c.args.buf.now in
    let work = length c.args.work.now in
    let ready = ready_granted span run buf work c.in_default.ensures.answer in
    ap is_ok (c.stage.ensures.answer ∙ ap (λ r. stage_turned span r run.part buf work) c.radix-radix.ensures.answer ∙ stage_answered span run buf work ready)

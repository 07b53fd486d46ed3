use Rattle.std.proofs.Common.{sym, ◌∙◌}
use Rattle.handover.proofs.Copied.{as_many}
use Rattle.handover.proofs.reading.pressure_count.Goals as goal

pub returns-then-has_pressure : goal.returns-then-has_pressure
returns-then-has_pressure c =
    let s = c.args.stroke.now in
    record { answer = c.len.ensures ∙ as_many s.pressed s.samples.now (sym c.has_pressure.ensures ∙ c.if-has_pressure.true) }

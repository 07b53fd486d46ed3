use Rattle.std.proofs.Common.{◌%◌, ap, ◌∙◌, arith}
use Rattle.spectra.proofs.Circle.{mod_below_span}
use Rattle.spectrum.proofs.circle.Angle.by.Goals as goal
use Rattle.spectrum.proofs.circle.Angle.by.Goals.{then-step-span, else-step-span}

pub returns-clause-step : goal.returns-clause-step
returns-clause-step g c =
    elim c.if-step-span.branch [
      | then-step-span w ↦ w.step-is ∙ mod_below_span _ _ (omega arith)
      | else-step-span w ↦ w.step-is ∙ ap (λ x. c.args.step % x) c.span-span.ensures
    ]

use Rattle.std.proofs.Common.{arith}
use Rattle.spectrum.proofs.Granting.{stage_granted, suited_sound}
use Rattle.spectrum.proofs.steps.stage.Goals as goal

pub new-requires : goal.new-requires
new-requires g c =
    let every = g.met.X.Arithmetic.lawful.every in
    suited_sound _ _ _ _ _ every.span_above_zero every.span_fits (stage_granted _ c.args.radix c.args.len _ _ c.in_ok-stage_suits.ensures.answer)

pub stage-made-requires : goal.stage-made-requires
stage-made-requires g c =
    let fits = stage_granted _ c.args.radix c.args.len _ _ c.in_ok-stage_suits.ensures.answer in
    let shape = c.new.ensures in
    record {
      whole = rw (shape.0, shape.1) fits.whole;
      fits = fits.fits;
      scratch = omega (arith, shape.0, fits.most, fits.room);
    }

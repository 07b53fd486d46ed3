use Rattle.spectrum.proofs.Toned.{toned}
use Rattle.spectrum.proofs.suited.Suited.tones_into.Goals as goal

pub returns : goal.returns
returns g c =
    record { after = toned g.X.Arithmetic.meaning _ _ c.args.self.now.plan.each c.requires.samples c.scatter.ensures.after c.stages.ensures.after }

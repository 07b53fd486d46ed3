use Rattle.arithmetic.proofs.Ladder.{exact_laws}
use Rattle.spectra.proofs.DefiningSums.{all_plans_agree}
use Rattle.spectrum.proofs.Toned.{toned}
use Rattle.spectrum.proofs.suited.Suited.tones_in_place.Goals as goal

pub returns-clause-after : goal.returns-clause-after
returns-clause-after g c =
    toned g.X.Arithmetic.meaning _ _ c.args.self.now.plan.each c.requires.whole c.deal.ensures.after c.stages-made.ensures.after

pub returns-clause-sums : goal.returns-clause-sums
returns-clause-sums g c = λ exact.
    let made = toned g.X.Arithmetic.meaning _ _ c.args.self.now.plan.each c.requires.whole c.deal.ensures.after c.stages-made.ensures.after in
    rw made (all_plans_agree (exact_laws g.met.X.Arithmetic.lawful exact) _ c.args.buf.now c.args.self.now.divides c.requires.whole)

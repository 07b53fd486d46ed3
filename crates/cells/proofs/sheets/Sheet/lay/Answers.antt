use Rattle.spectra.specs.Moves.{laid}
use Rattle.spectra.specs.Spectra.{spectrum}
use Rattle.cells.proofs.Granting.{fits_from_granted}
use Rattle.cells.proofs.Halves.{halves_put}
use Rattle.cells.proofs.sheets.Sheet.lay.Goals as goal

pub returns-clause-after : goal.returns-clause-after
returns-clause-after g c =
    let m = g.X.Arithmetic.meaning in
    let b = c.args.laid.now in
    let fits = fits_from_granted m c.args.self.now.n _ c.in_ok-fits.ensures.answer in
    halves_put _ _ fits.whole (λ a. laid m a b) (λ y. laid m y (spectrum m b)) _ _ c.lay_samples.auto.under c.lay_samples.ensures.after c.lay_tones.ensures.after

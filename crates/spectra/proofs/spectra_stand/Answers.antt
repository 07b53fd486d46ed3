use Rattle.spectra.proofs.SpectraLaws.{spectra_laws}
use Rattle.spectra.proofs.spectra_stand.Goals as goal

pub returns : goal.returns
returns g c = spectra_laws g.met.X.Arithmetic.lawful

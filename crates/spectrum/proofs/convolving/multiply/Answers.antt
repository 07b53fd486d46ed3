use Rattle.std.proofs.Common.{arith}
use Rattle.std.proofs.lemmas.List.FromFn.{fill_by_all}
use Rattle.spectra.specs.Spectra.{spectra_product}
use Rattle.spectrum.proofs.convolving.multiply.Goals as goal

pub returns : goal.returns
unfolding spectra_product
returns g c =
    let m = g.X.Arithmetic.meaning in
    record { after = fill_by_all _ c.loop-k.tones _ m.zero c.loop-k.auto.tones (λ k h. c.loop-k.invariant.0 k (omega arith)) }

use Rattle.spectra.specs.Spectra.{spectrum}
use Rattle.cells.proofs.NextTones.{place_laid}
use Rattle.cells.proofs.Written.{Written}
use Rattle.cells.proofs.tones.lay_tones.Given as goal

abbrev pub invariant-loop-k : goal.invariant-loop-k
invariant-loop-k g l =
    let m = g.X.Arithmetic.meaning in
    Written m.zero (place_laid m l.initial.tones (spectrum m l.laid)) l.k l.initial.tones l.tones

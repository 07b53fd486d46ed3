use Rattle.cells.proofs.NextTones.{place_laid}
use Rattle.cells.proofs.Written.{Written}
use Rattle.cells.proofs.tones.lay_samples.Given as goal

abbrev pub invariant-loop-t : goal.invariant-loop-t
invariant-loop-t g l =
    let m = g.X.Arithmetic.meaning in
    Written m.zero (place_laid m l.initial.under l.laid) l.t l.initial.under l.under

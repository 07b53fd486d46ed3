use Rattle.std.proofs.Common.{arith}
use Rattle.spectra.specs.Moves.{laid}
use Rattle.cells.proofs.Written.{written_all}
use Rattle.cells.proofs.tones.lay_samples.Goals as goal

pub returns : goal.returns
unfolding laid
returns g c = record { after = written_all _ _ c.loop-t.invariant (omega arith) c.loop-t.auto.under }

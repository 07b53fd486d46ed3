use Rattle.std.proofs.Common.{◌*◌, ◌/◌, length}
use Rattle.spectra.specs.Tones.{combine}
use Rattle.spectra.proofs.Blocks.{Blocks}
use Rattle.spectrum.proofs.shape.Shape.stage.Given as goal

abbrev pub invariant-loop-b : goal.invariant-loop-b
invariant-loop-b g l =
    let n = l.self.radix * l.self.len in
    Blocks (combine g.X.Arithmetic.meaning l.self.radix l.self.len) n (length l.initial.buf / n) l.b (l.b * n) l.initial.buf l.buf

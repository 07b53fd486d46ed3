use Rattle.std.proofs.Common.{◌≡◌, ℕ, ◌+◌, ◌*◌, ◌<◌, get_or}
use Rattle.spectra.specs.Tones.{tone}
use Rattle.spectrum.specs.Shapes.{Column}
use Rattle.spectrum.proofs.shape.Shape.column.Given as goal

abbrev pub invariant-loop-i : goal.invariant-loop-i
invariant-loop-i g l =
    let m = g.X.Arithmetic.meaning in
    (k : ℕ) → k < l.i → get_or l.tones k m.zero ≡ tone m l.self.radix l.self.len l.block (k * l.self.len + l.j)

abbrev pub invariant-loop-i-2 : goal.invariant-loop-i-2
invariant-loop-i-2 g l = Column g.X.Arithmetic.meaning l.self.radix l.self.len l.j l.i l.initial.block l.block

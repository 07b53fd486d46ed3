use Rattle.std.proofs.Common.{◌+◌, ◌*◌, length}
use Rattle.spectrum.proofs.Parts.{Ahead}
use Rattle.spectrum.proofs.Sums.{Summed}
use Rattle.spectrum.proofs.shape.Shape.output.Given as goal

abbrev pub invariant-loop-part : goal.invariant-loop-part
invariant-loop-part g l =
    Summed g.X.Arithmetic.meaning l.self.radix l.self.len l.block (l.i * l.self.len + l.j) (length l.yielded + 1) l.sum l.e l.step l.span
    × Ahead l.self.radix l.self.len l.block (length l.yielded + 1) l.part-iterator.size l.part-iterator.rest.now

use Rattle.spectrum.proofs.Columns.{Columns}
use Rattle.spectrum.proofs.shape.Shape.combine.Given as goal

abbrev pub invariant-loop-j : goal.invariant-loop-j
invariant-loop-j g l = Columns g.X.Arithmetic.meaning l.self.radix l.self.len l.j l.initial.block l.block

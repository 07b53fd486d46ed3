use Rattle.writing.specs.Lending.{held}
use Rattle.stroke.specs.Writing.{sample_bytes}
use Rattle.writing.proofs.Filling.{Filled}
use Rattle.writing.proofs.write_samples.Given as goal

abbrev pub invariant-loop-i : goal.invariant-loop-i
invariant-loop-i l = Filled (sample_bytes (held l.stroke)) l.size l.initial.out l.i l.out

use Rattle.std.proofs.Common.{length}
use Rattle.plan.specs.Planned.{radices_of}
use Rattle.spectrum.proofs.Schedule.{Done}
use Rattle.spectrum.proofs.suited.Suited.stages.Given as goal

abbrev pub invariant-loop-r : goal.invariant-loop-r
invariant-loop-r g l =
    Done g.X.Arithmetic.meaning (radices_of l.self.plan) (length l.yielded) l.len l.made l.initial.buf l.buf

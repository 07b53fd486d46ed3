use Rattle.std.proofs.Common.{◌≡◌, take}
use Rattle.handover.specs.Lending.{pairs}
use Rattle.handover.proofs.lending.Held.of.Given as goal

-- the samples so far
abbrev pub invariant-loop-sample : goal.invariant-loop-sample
invariant-loop-sample l = l.tuples.items ≡ pairs (take l.sample-index l.path)

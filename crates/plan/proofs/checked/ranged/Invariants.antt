use Rattle.std.proofs.Common.{◌≡◌, drop}
use Rattle.plan.specs.Planned.{ranged}
use Rattle.plan.proofs.checked.ranged.Given as goal

abbrev pub invariant-loop-i : goal.invariant-loop-i
invariant-loop-i l = ranged 0 l.radices ≡ ranged l.i (drop l.i l.radices)

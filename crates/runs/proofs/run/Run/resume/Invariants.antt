use Rattle.std.proofs.Common.{◌≡◌, ◌+◌, min, length, Ok}
use Rattle.runs.specs.Runs.{plan_of, IsHeld}
use Rattle.spectrum.specs.Granted.{plans}
use Rattle.runs.proofs.run.Run.resume.Given as goal

-- i stages are done, of as many as were asked for
abbrev pub invariant-loop-i : goal.invariant-loop-i
invariant-loop-i l =
    (plan_of l.run ≡ l.radices) × (l.run.left + l._i ≡ length l.radices)
    × (l.count ≡ min l.done (length l.radices)) × (plans l.radices ≡ Ok l.radices)
    × IsHeld l.run

use Rattle.std.proofs.Common.{◌≡◌, min, length, replicate}
use Rattle.runs.specs.Runs.{IsHeld}
use Rattle.runs.proofs.Underway.{Suited}
use Rattle.runs.proofs.Polled.{Polled}
use Rattle.runs.proofs.driving.poll.Given as goal

abbrev pub invariant-loop-i : goal.invariant-loop-i
invariant-loop-i g l =
    let m = g.X.Arithmetic.meaning in
    Polled m l.radices l._i l.run l.initial.buf l.buf
    × Suited m.span l.radices (length l.buf) (length l.work)
    × (l.count ≡ min l.polls (length l.radices))
    × (l.work ≡ replicate (length l.initial.work) m.zero)
    × IsHeld l.run

use Rattle.std.proofs.Common.{◌≡◌, ◌+◌, length}
use Rattle.arithmetic.specs.Series.{series}
use Rattle.cells.proofs.NextTones.{sample_turned}
use Rattle.cells.proofs.Walks.{Walked}
use Rattle.cells.proofs.tones.tone_of.Given as goal

abbrev pub invariant-loop-x : goal.invariant-loop-x
invariant-loop-x g l =
    let m = g.X.Arithmetic.meaning in
    Walked m.span (length l.samples) l.k l.x-index l.angle
    × (l.sum ≡ series m (sample_turned m l.samples l.k) (l.x-index + 1))

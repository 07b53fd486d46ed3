use Rattle.std.proofs.Common.{◌≡◌, ℕ, ◌<◌, get_or}
use Rattle.spectrum.proofs.engine.clear.Given as goal

abbrev pub invariant-loop-x : goal.invariant-loop-x
invariant-loop-x g l =
    let zero = g.X.Arithmetic.meaning.zero in
    (k : ℕ) → k < l.x-index → get_or l.work k zero ≡ zero

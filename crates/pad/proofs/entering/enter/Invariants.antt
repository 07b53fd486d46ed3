use Rattle.std.proofs.Common.{◌≡◌, ℕ, ◌<◌, get_or}
use Rattle.fixed.specs.Pairs.{origin, entered}
use Rattle.stroke.specs.Reading.{contents}
use Rattle.pad.proofs.entering.enter.Given as goal

-- the first i samples have entered
abbrev pub invariant-loop-i : goal.invariant-loop-i
invariant-loop-i l = (k : ℕ) → k < l.i → get_or l.out k origin ≡ get_or (entered (contents l.stroke).path) k origin

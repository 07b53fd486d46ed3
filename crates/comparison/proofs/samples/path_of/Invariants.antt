use Rattle.std.proofs.Common.{◌≡◌, take}
use Rattle.stroke.specs.Reading.{contents}
use Rattle.comparison.proofs.samples.path_of.Given as goal

-- the first i samples are copied
abbrev pub invariant-loop-i : goal.invariant-loop-i
invariant-loop-i l = l.path.items ≡ take l.i (contents l.stroke).path

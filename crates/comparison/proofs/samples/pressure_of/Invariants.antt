use Rattle.std.proofs.Common.{◌≡◌, take}
use Rattle.stroke.specs.Contents.{pressures}
use Rattle.stroke.specs.Reading.{contents}
use Rattle.comparison.proofs.samples.pressure_of.Given as goal

-- the first i pressures are copied
abbrev pub invariant-loop-i : goal.invariant-loop-i
invariant-loop-i l = l.pressures.items ≡ take l.i (pressures (contents l.stroke))

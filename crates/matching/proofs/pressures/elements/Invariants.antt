use Rattle.std.proofs.Common.{◌≡◌, take}
use Rattle.matching.specs.Readings.{entered_pressures}
use Rattle.matching.proofs.pressures.elements.Given as goal

abbrev pub invariant-loop-count : goal.invariant-loop-count
invariant-loop-count l = l.elements.items ≡ entered_pressures (take l.count-index l.counts)

use Rattle.std.proofs.Common.{◌≡◌, length, take}
use Rattle.std.specs.List.{AllZip}
use Rattle.matching.proofs.paths.elements.Given as goal

-- what was made of the samples so far
abbrev pub invariant-loop-sample : goal.invariant-loop-sample
invariant-loop-sample g l = (length l.elements.items ≡ l.sample-index) × AllZip (goal.F-post g l.enter) (take l.sample-index l.path) l.elements.items

use Rattle.std.proofs.Common.{◌≡◌, map, take}
use Rattle.handover.specs.Matching.{sum}
use Rattle.handover.proofs.matches.copy_sums.Given as goal

-- the sums of the lags so far
abbrev pub invariant-loop-lag : goal.invariant-loop-lag
invariant-loop-lag l = take l.lag l.out ≡ map sum (take l.lag l.sums)

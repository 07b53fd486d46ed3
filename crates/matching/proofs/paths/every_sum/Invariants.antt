use Rattle.std.proofs.Common.{◌≡◌, ℕ, ◌<◌, get_or}
use Rattle.matching.specs.Lags.{origin}
use Rattle.matching.specs.Readings.{read_sum}
use Rattle.matching.proofs.paths.every_sum.Given as goal

-- the sums of the lags so far
abbrev pub invariant-loop-lag : goal.invariant-loop-lag
invariant-loop-lag l = (k : ℕ) → k < l.lag → get_or l.out k origin ≡ read_sum l.a l.b k

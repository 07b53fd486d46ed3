use Rattle.std.proofs.Common.{pos, rules}
use Rattle.matching.specs.Readings.{read_pressures}
use Rattle.matching.proofs.pressures.best_lag.Goals as goal

pub returns : goal.returns
unfolding read_pressures
returns c =
    record { answer = c.first_best.ensures.least (λ k. pos (read_pressures c.args.a.now c.args.b.now k)) (λ k z h post. search rules) }

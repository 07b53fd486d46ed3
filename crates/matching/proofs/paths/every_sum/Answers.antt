use Rattle.std.proofs.Common.{◌≡◌, ℕ, ◌+◌, ◌<◌, length, get_or, set, ℤ, sym, ap, ◌∙◌, subst, arith}
use Rattle.std.proofs.lemmas.List.Edits.{fill_by_more}
use Rattle.std.proofs.lemmas.List.FromFn.{fill_by_all}
use Rattle.matching.specs.Lags.{origin}
use Rattle.matching.specs.Readings.{signed_parts, read_sum}
use Rattle.matching.proofs.paths.every_sum.Goals as goal

pub loop-lag-preserved : goal.loop-lag-preserved
unfolding read_sum
loop-lag-preserved c =
    let f = read_sum c.args.a.now c.args.b.now in
    let lag = c.loop-lag.lag in
    let out = c.loop-lag.out in
    let is : c.signed_parts.result ≡ f lag = c.signed_parts.ensures.answer ∙ ap signed_parts c.lagged_sum.ensures.answer in
    subst (λ (y : ℤ × ℤ). (k : ℕ) → k < lag + 1 → get_or (set out lag y) k origin ≡ f k) (sym is)
    (fill_by_more f out lag origin (omega arith) c.loop-lag.invariant)

pub returns : goal.returns
returns c =
    record { after = fill_by_all (read_sum c.args.a.now c.args.b.now) c.loop-lag.out (length c.args.a.now) origin (omega arith) (λ k h. c.loop-lag.invariant k (omega arith)) }

use Rattle.std.proofs.Common.{rules, ◌≡◌, ◌*◌, sym, ap, ◌∙◌, arith}
use Rattle.std.specs.List.{sum}
use Rattle.std.proofs.iter.runs.Sources.{sums}
use Rattle.plan.specs.Radices.{size, turns}
use Rattle.plan.proofs.Sizes.{sum_is, turns_le}
use Rattle.plan.proofs.validated.Plan.turns.Goals as goal

summed : (c : goal.After-len) → c.sum-sum.result ≡ sum c.radices.result.now
summed c = search (rules, sums)

-- the product is the plan's turns
made : (c : goal.After-len) → c.len.result * c.sum-sum.result ≡ turns c.radices.result.now
made c =
    let rs = c.radices.result.now in
    ap (λ n. n * c.sum-sum.result) (c.len.ensures.answer ∙ ap size (sym c.radices.ensures.answer))
    ∙ ap (λ s. size rs * s) (summed c ∙ sum_is rs)

pub overflow_mul-result : goal.overflow_mul-result
overflow_mul-result c = omega (arith, made c, turns_le c.radices.result.now c.radices.ensures.plan)

pub returns : goal.returns
returns c = record { answer = made c ∙ ap turns c.radices.ensures.answer }

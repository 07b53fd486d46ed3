use Rattle.std.proofs.Common.{ap, ◌∙◌, arith}
use Rattle.plan.specs.Radices.{size}
use Rattle.plan.specs.Dealing.{place}
use Rattle.plan.proofs.Sizes.{plan_size_positive}
use Rattle.plan.proofs.Places.{placing_none, placing_more, placing_within, placing_all, place_below}
use Rattle.plan.proofs.validated.Plan.place.Goals as goal

pub loop-r-init : goal.loop-r-init
loop-r-init c = placing_none c.radices-r-items.result.now c.args.n

pub loop-r-preserved : goal.loop-r-preserved
loop-r-preserved c = placing_more _ _ _ _ _ c.loop-r-test.true c.loop-r.invariant

pub overflow_mul-at : goal.overflow_mul-at
overflow_mul-at c =
    omega (arith, placing_within _ _ _ _ _ c.loop-r-test.true c.radices-r-items.ensures.plan c.loop-r.invariant)

pub overflow_add-at : goal.overflow_add-at
overflow_add-at c =
    omega (arith, placing_within _ _ _ _ _ c.loop-r-test.true c.radices-r-items.ensures.plan c.loop-r.invariant)

pub returns : goal.returns
returns c =
    let rs = c.radices-r-items.result.now in
    let same = c.radices-r-items.ensures.answer in
    let at = placing_all rs c.args.n c.loop-r.r-index c.loop-r.left c.loop-r.at c.loop-r-test.false c.loop-r.invariant in
    let below = place_below rs (plan_size_positive rs c.radices-r-items.ensures.plan) c.args.n in
    record { answer = at ∙ ap (λ x. place x c.args.n) same; within = omega (arith, at, below, ap size same) }

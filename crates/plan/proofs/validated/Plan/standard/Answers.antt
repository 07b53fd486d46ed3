use Rattle.std.proofs.Common.{◌/◌, get_or, sym, ap, ◌∙◌, subst, inl, inr, ⊎_elim, arith}
use native.Mathlib.Nat.{div-lt_self}
use Rattle.std.specs.Option.{ok_or}
use Rattle.plan.specs.declared.fault.PlanFault.TheVariants.{Length}
use Rattle.plan.specs.Standard.{standard_radices}
use Rattle.plan.proofs.Sound.{checked_few}
use Rattle.plan.proofs.Taking.{Taking, standard_each, taking_none, taking_next, taking_more, taking_all, taking_fails, taken_fits, some_left, standard_outside, standard_inside}
use Rattle.plan.proofs.validated.Plan.standard.Goals as goal

pub returns-then-n-eq0 : goal.returns-then-n-eq0
returns-then-n-eq0 c = record { answer = sym (standard_outside c.args.n (⊎_elim inl (λ w. inr w.1) c.then-n-eq0.either)) }

pub loop-r-init : goal.loop-r-init
loop-r-init c =
    subst (λ rs. Taking c.args.n 0 rs c.args.n) (sym c.empty-plan.ensures.answer) (taking_none c.args.n)

pub nonzero_rem-left : goal.nonzero_rem-left
nonzero_rem-left c = let radix = standard_each c.loop-r.r-index c.loop-r-test.true in omega arith

pub with-plan-requires : goal.with-plan-requires
with-plan-requires c =
    record {
      radix = standard_each c.loop-r.r-index c.loop-r-test.true;
      small = taken_fits _ _ _ _ c.loop-left.invariant (get_or standard_radices c.loop-r.r-index 0) (omega arith) c.if-n-gt-LARGEST_SIZE.false c.loop-left-test.true;
    }

pub nonzero_div-left : goal.nonzero_div-left
nonzero_div-left c = let radix = standard_each c.loop-r.r-index c.loop-r-test.true in omega arith

pub loop-left-smaller : goal.loop-left-smaller
loop-left-smaller c =
    let radix = standard_each c.loop-r.r-index c.loop-r-test.true in
    div-lt_self (some_left _ _ _ _ c.loop-left.invariant (omega arith)) (omega arith)

pub loop-left-preserved : goal.loop-left-preserved
loop-left-preserved c =
    let r = get_or standard_radices c.loop-r.r-index 0 in
    let more = taking_more _ _ _ _ c.loop-left.invariant c.loop-r-test.true (checked_few c.loop-left.plan) c.loop-left-test.true in
    subst (λ rs. Taking c.args.n c.loop-r.r-index rs (c.loop-left.left / r)) (sym c.with-plan.ensures.answer) more

pub loop-r-preserved : goal.loop-r-preserved
loop-r-preserved c =
    taking_next _ _ _ _ c.loop-left.invariant c.loop-r-test.true (checked_few c.loop-left.plan) c.loop-left-test.false

pub returns-then-left-gt1 : goal.returns-then-left-gt1
returns-then-left-gt1 c =
    let n = c.args.n in
    let none = taking_fails _ _ _ _ c.loop-r.invariant c.loop-r-test.false c.if-left-gt1.true in
    record { answer = sym (standard_inside n (omega arith) c.if-n-gt-LARGEST_SIZE.false ∙ ap (λ o. ok_or o (Length n)) none) }

pub returns : goal.returns
returns c =
    let n = c.args.n in
    let some = some_left _ _ _ _ c.loop-r.invariant (omega arith) in
    let all = taking_all _ _ _ _ c.loop-r.invariant c.loop-r-test.false (omega arith) in
    record { answer = sym (standard_inside n (omega arith) c.if-n-gt-LARGEST_SIZE.false ∙ ap (λ o. ok_or o (Length n)) all) }

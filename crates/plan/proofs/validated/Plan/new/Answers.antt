use Rattle.std.proofs.Common.{sym, ap, ◌∙◌, subst, one-mul, arith}
use Rattle.plan.specs.Radices.{size, Each}
use Rattle.plan.proofs.Sound.{front_of}
use Rattle.plan.proofs.Scans.{ranged_each, product_size}
use Rattle.plan.proofs.validated.Plan.new.Goals as goal

pub invariant_of-result : goal.invariant_of-result
invariant_of-result c =
    let rs = c.args.radices.now in
    let front = sym (front_of rs _ c.held.result c.held.ensures.answer) in
    let range = ranged_each 0 rs c.in_ok-ranged.ensures.answer in
    let product = product_size 1 0 rs c.in_ok-samples.samples (omega arith) c.in_ok-samples.ensures.answer in
    record { few = omega arith; each = subst Each front range; whole = product.0 ∙ one-mul (size rs) ∙ ap size front; small = product.1 }

use Rattle.std.proofs.Common.{sym, ap, ◌∙◌, subst, arith}
use Rattle.plan.specs.Radices.{size, Each}
use Rattle.plan.specs.Planned.{radices_of}
use Rattle.plan.proofs.Growing.{each_push, count_below, radices_push, len_push, len_small}
use Rattle.plan.proofs.validated.Plan.with.Goals as goal

pub bounds-radices-self : goal.bounds-radices-self
bounds-radices-self c = count_below c.args.self c.args.radix (omega arith) c.requires.radix.0 c.requires.small

pub invariant_of-result : goal.invariant_of-result
invariant_of-result c =
    let p = c.args.self in
    let r = c.args.radix in
    let pushed = sym (radices_push p r (omega arith) c.requires.radix.0 c.requires.small) in
    let room = count_below p r (omega arith) c.requires.radix.0 c.requires.small in
    let each = each_push (radices_of p) r p.each c.requires.radix.0 c.requires.radix.1 in
    let whole = len_push p r (omega arith) c.requires.radix.0 c.requires.small in
    record { few = omega arith; each = subst Each pushed each; whole = whole ∙ ap size pushed; small = len_small p r (omega arith) c.requires.radix.0 c.requires.small }

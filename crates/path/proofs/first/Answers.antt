use Rattle.std.proofs.Common.{◌-◌, ◌*◌, ◌∙◌, arith}
use Rattle.path.specs.Paths.{modulus}
use Rattle.path.proofs.Products.{two_products_fit, taken_as_added}
use Rattle.path.proofs.first.Goals as goal

pub overflow_add-a : goal.overflow_add-a
overflow_add-a c =
    let a = c.args.a in
    let b = c.args.b in
    let fits = two_products_fit a.u a.v b.u.word (modulus - b.v.word) (omega arith) (omega arith) (omega (arith, b.u.below)) (omega arith) in
    omega arith

pub returns : goal.returns
returns c =
    let a = c.args.a in
    let b = c.args.b in
    record { answer = c.of.ensures ∙ taken_as_added (a.u * b.u.word) a.v b.v.word (omega (arith, b.v.below)) }

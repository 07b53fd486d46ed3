use Rattle.std.proofs.Common.{arith}
use Rattle.path.proofs.Products.{two_products_fit}
use Rattle.path.proofs.second.Goals as goal

pub overflow_add-a : goal.overflow_add-a
overflow_add-a c =
    let a = c.args.a in
    let b = c.args.b in
    let fits = two_products_fit a.u a.v b.v.word b.u.word (omega arith) (omega arith) (omega (arith, b.v.below)) (omega (arith, b.u.below)) in
    omega arith

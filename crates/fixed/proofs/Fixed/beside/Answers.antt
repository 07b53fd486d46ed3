use Rattle.std.proofs.Common.{ap, ◌∙◌, w64, rules}
use Rattle.std.proofs.lemmas.Int.{to_z-of_z}
use Rattle.fixed.specs.Rounding.{rounded}
use Rattle.fixed.proofs.Words.{beside_fits, beside_most, beside_is}
use Rattle.fixed.proofs.Fixed.beside.Goals as goal

pub overflow_sub-self : goal.overflow_sub-self
overflow_sub-self c =
    let a = c.args.self in
    let to = c.args.to in
    beside_fits a.y a.x to.c to.s (search rules) (search rules) (search rules) (search rules) to.short

pub rounded-requires : goal.rounded-requires
rounded-requires c =
    let a = c.args.self in
    let to = c.args.to in
    beside_most a.y a.x to.c to.s (search rules) (search rules) (search rules) (search rules) to.short

pub returns : goal.returns
returns c =
    let a = c.args.self in
    let to = c.args.to in
    let is = beside_is a.y a.x to.c to.s (search rules) (search rules) (search rules) (search rules) to.short in
    let word = to_z-of_z w64 c.rounded.result (record { sfits = c.rounded.type_inv }) in
    record { answer = word ∙ c.rounded.ensures.answer ∙ ap rounded is }

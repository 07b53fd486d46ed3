use Rattle.std.proofs.Common.{ap, ◌∙◌, w64, rules}
use Rattle.std.proofs.lemmas.Int.{to_z-of_z}
use Rattle.fixed.specs.Rounding.{rounded}
use Rattle.fixed.proofs.Words.{along_fits, along_most, along_is}
use Rattle.fixed.proofs.Fixed.along.Goals as goal

pub overflow_add-self : goal.overflow_add-self
overflow_add-self c =
    let a = c.args.self in
    let to = c.args.to in
    along_fits a.x a.y to.c to.s (search rules) (search rules) (search rules) (search rules) to.short

pub rounded-requires : goal.rounded-requires
rounded-requires c =
    let a = c.args.self in
    let to = c.args.to in
    along_most a.x a.y to.c to.s (search rules) (search rules) (search rules) (search rules) to.short

pub returns : goal.returns
returns c =
    let a = c.args.self in
    let to = c.args.to in
    let is = along_is a.x a.y to.c to.s (search rules) (search rules) (search rules) (search rules) to.short in
    let word = to_z-of_z w64 c.rounded.result (record { sfits = c.rounded.type_inv }) in
    record { answer = word ∙ c.rounded.ensures.answer ∙ ap rounded is }

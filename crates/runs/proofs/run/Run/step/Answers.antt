use Rattle.std.proofs.Common.{◌∙◌, arith}
use Rattle.runs.proofs.Underway.{parts_more, part_fits, turns_more, turns_fit}
use Rattle.runs.proofs.run.Run.step.Goals as goal

pub overflow_mul-self : goal.overflow_mul-self
overflow_mul-self c =
    omega (arith, part_fits c.args.self c.requires.left c.from.result (c.from.ensures ∙ c.requires.radix))

pub overflow_add-self : goal.overflow_add-self
overflow_add-self c =
    omega (arith, turns_fit c.args.self c.requires.left c.args.radix c.requires.radix c.args.made c.requires.turns)

pub invariant_of-self : goal.invariant_of-self
invariant_of-self c =
    let run = c.args.self in
    record {
      stages = omega (arith, run.stages);
      parts = parts_more run c.requires.left c.from.result (c.from.ensures ∙ c.requires.radix);
      turned = turns_more run c.requires.left c.args.radix c.requires.radix c.args.made c.requires.turns;
    }

use Rattle.std.proofs.Common.{ap, ◌∙◌}
use Rattle.path.specs.Paths.{times}
use Rattle.path.specs.Laws.{times_value}
use Rattle.path.proofs.PathArithmetic.product.Goals as goal

pub returns : goal.returns
returns c =
    c.path.ensures.answer ∙ c.times.ensures.answer ∙ ap (times c.args.self) c.reduced.ensures.answer ∙ times_value c.args.self c.args.other

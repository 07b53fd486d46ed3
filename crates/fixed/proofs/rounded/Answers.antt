use Rattle.std.proofs.Common.{rules}
use Rattle.fixed.specs.Rounding.{rounded}
use Rattle.fixed.proofs.rounded.Goals as goal

pub returns : goal.returns
unfolding rounded
returns c = search rules

use Rattle.std.proofs.Common.{w32, SFits, rules}
use Rattle.std.proofs.lemmas.Int.{wrapping_add_is}
use Rattle.fixed.specs.Pairs.{pair}
use Rattle.fixed.proofs.FixedArithmetic.sum.Goals as goal

pub returns : goal.returns
returns c =
    let ax : SFits w32 c.args.self.x = search rules in
    let ay : SFits w32 c.args.self.y = search rules in
    let bx : SFits w32 c.args.other.x = search rules in
    let by : SFits w32 c.args.other.y = search rules in
    λ i. pair (wrapping_add_is w32 _ _ ax bx i) (wrapping_add_is w32 _ _ ay by i)

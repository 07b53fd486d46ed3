use Rattle.std.proofs.Common.{◌*◌, ◌/◌, refl, arith}
use Rattle.rooted.specs.Powers.{step}
use Rattle.path.specs.Paths.{power}
use Rattle.path.specs.Laws.{modulus_is}
use Rattle.path.proofs.Tables.{high_powers, below}
use Rattle.path.proofs.powers.PathPowersSPAN.high.Goals as goal

pub invariant_of-result : goal.invariant_of-result
unfolding power
invariant_of-result c =
    let in_span = c.args.e.below in
    record {
      below = (below (step * (c.args.e.word / step)) (high_powers _ refl (c.args.e.word / step) (omega arith))).0;
      modulus = modulus_is;
    }

pub invariant_of-result-2 : goal.invariant_of-result-2
unfolding power
invariant_of-result-2 c =
    let in_span = c.args.e.below in
    record {
      below = (below (step * (c.args.e.word / step)) (high_powers _ refl (c.args.e.word / step) (omega arith))).1;
      modulus = modulus_is;
    }

pub returns : goal.returns
unfolding power
returns c =
    let in_span = c.args.e.below in
    record { answer = high_powers _ refl (c.args.e.word / step) (omega arith) }

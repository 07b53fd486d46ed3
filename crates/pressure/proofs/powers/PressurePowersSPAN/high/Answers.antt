use Rattle.std.proofs.Common.{◌*◌, ◌/◌, refl, arith}
use Rattle.rooted.specs.Powers.{step}
use Rattle.pressure.specs.Laws.{modulus_is}
use Rattle.pressure.proofs.Tables.{high_powers, below}
use Rattle.pressure.proofs.powers.PressurePowersSPAN.high.Goals as goal

pub invariant_of-result : goal.invariant_of-result
invariant_of-result c =
    let in_span = c.args.e.below in
    record {
      below = below (step * (c.args.e.word / step)) (high_powers _ refl (c.args.e.word / step) (omega arith));
      modulus = modulus_is;
    }

pub returns : goal.returns
returns c =
    let in_span = c.args.e.below in
    record { answer = high_powers _ refl (c.args.e.word / step) (omega arith) }

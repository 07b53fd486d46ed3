use Rattle.std.proofs.Common.{◌%◌, refl, arith}
use Rattle.rooted.specs.Powers.{step}
use Rattle.path.specs.Laws.{modulus_is}
use Rattle.path.proofs.Tables.{low_powers, below}
use Rattle.path.proofs.powers.PathPowersSPAN.low.Goals as goal

pub invariant_of-result : goal.invariant_of-result
invariant_of-result c =
    record {
      below = (below (c.args.e.word % step) (low_powers _ refl (c.args.e.word % step) (omega arith))).0;
      modulus = modulus_is;
    }

pub invariant_of-result-2 : goal.invariant_of-result-2
invariant_of-result-2 c =
    record {
      below = (below (c.args.e.word % step) (low_powers _ refl (c.args.e.word % step) (omega arith))).1;
      modulus = modulus_is;
    }

pub returns : goal.returns
returns c = record { answer = low_powers _ refl (c.args.e.word % step) (omega arith) }

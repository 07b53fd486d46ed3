use Rattle.std.proofs.Common.{◌%◌, refl, arith}
use Rattle.rooted.specs.Powers.{step}
use Rattle.pressure.specs.Laws.{modulus_is}
use Rattle.pressure.proofs.Tables.{low_powers, below}
use Rattle.pressure.proofs.powers.PressurePowersSPAN.low.Goals as goal

pub invariant_of-result : goal.invariant_of-result
invariant_of-result c =
    record { below = below (c.args.e.word % step) (low_powers _ refl (c.args.e.word % step) (omega arith)); modulus = modulus_is }

pub returns : goal.returns
returns c = record { answer = low_powers _ refl (c.args.e.word % step) (omega arith) }

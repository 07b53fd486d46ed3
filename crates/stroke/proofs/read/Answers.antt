use Rattle.std.proofs.Common.{◌<◌, arith, rules}
use Rattle.std.proofs.ByRecursion.{All-from_get_or}
use Rattle.stroke.proofs.Granted.{granted}
use Rattle.stroke.proofs.read.Goals as goal

pub returns-in-None : goal.returns-in-None
returns-in-None c =
    record {
      answer = search rules;
      file = granted c.args.bytes.now _ (All-from_get_or (λ b. b < 256) c.args.bytes.now 0 (λ i h. omega (arith, c.type_inv.bytes i))) (search rules);
    }

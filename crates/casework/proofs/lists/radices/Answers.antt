use Rattle.std.proofs.Common.{◌≡◌, arith}
use Rattle.std.proofs.lemmas.Iterator.{YieldsList-from_any_map}
use Rattle.std.proofs.lemmas.Iterator.Consumers.{YieldsList-at}
use Rattle.std.proofs.lemmas.Iterator.Splits.{YieldsList-from_str_split}
use Rattle.casework.specs.Spelling.{comma}
use Rattle.casework.proofs.Counting.{counted}
use Rattle.casework.proofs.lists.radices.Goals as goal

pub returns-clause-count : goal.returns-clause-count
returns-clause-count c = λ some.
    let pieces = YieldsList-from_str_split comma c.args.text.now (omega arith) c.split.ensures.text c.split.ensures.has_more c.split.ensures.pattern in
    counted (λ x r. r ≡ x) c.try_collect.result c.try_collect.ensures.ran _ (YieldsList-from_any_map _ (YieldsList-at c.map.ensures.source pieces))

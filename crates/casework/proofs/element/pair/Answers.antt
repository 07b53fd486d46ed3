use Rattle.casework.proofs.Words.{cut_apart}
use Rattle.casework.proofs.element.pair.Goals as goal

pub returns : goal.returns
returns c = record { answer = λ u v lacks whole. cut_apart c.args.text.now u v c.split_once.result _ c.unwrap_or.result c.unwrap_or.ensures c.split_once.ensures.cases lacks whole }

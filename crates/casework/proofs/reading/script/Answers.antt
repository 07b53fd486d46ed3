use Rattle.std.proofs.lemmas.Result.{IfOk-weaker}
use Rattle.casework.specs.Most.{most_of_script}
use Rattle.casework.proofs.Limits.{limited}
use Rattle.casework.proofs.reading.script.Goals as goal

pub returns : goal.returns
returns g c = record { text = IfOk-weaker _ _ _ (λ s. limited g.R.Read.remaining c.take.result c.args.input most_of_script _ c.take.ensures.limit c.take.ensures.inner) c.read_to_string.ensures }

use Rattle.plan.proofs.Digits.{by_places}
use Rattle.plan.proofs.theorems.dealing_stands.Goals as goal

pub returns : goal.returns
returns g c = by_places _

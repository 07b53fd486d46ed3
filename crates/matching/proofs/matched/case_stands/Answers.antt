use Rattle.std.proofs.Common.{refl}
use Rattle.stroke.specs.Contents.{beyond_from}
use Rattle.matching.specs.Lags.{total, match_at, best}
use Rattle.matching.proofs.matched.case_stands.Goals as goal

pub returns : goal.returns
unfolding total match_at best beyond_from
returns c = record { answer = record { pairs = refl; answer = refl } }

use Rattle.distance.proofs.Distance.{tones_are_near_sums}
use Rattle.distance.proofs.tones_are_near_sums.Goals as goal

pub returns : goal.returns
returns c = record { answer = tones_are_near_sums }

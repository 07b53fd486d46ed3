use mathlib.Core.Path.{refl}
use Rattle.arithmetic.specs.Series.{series}
use Rattle.pressure.proofs.cases_stand.Goals as goal

pub returns : goal.returns
unfolding series
returns c = record { answer = record { half = refl; first_tone = refl; second_tone = refl } }

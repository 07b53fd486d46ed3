-- Matching for C: the sums of every lag in a lent list, and the best lags as numbers.
use Rattle.std.specs.Prelude.{◌≡◌, ℕ, Bool, cond, List, map, length, ℤ, is_some, Ok, Err, Result}
use Rattle.std.specs.Option.{unwrap_or}
use Rattle.std.specs.Result.{result_and, result_map_both}
use Rattle.path.specs.Paths.{span as path_span}
use Rattle.pressure.specs.Pressures.{span as pressure_span}
use Rattle.stroke.specs.Contents.{Contents}
use Rattle.refusal.specs.declared.Fault.{Fault}
use Rattle.refusal.specs.declared.Fault.TheVariants.{Length}
use Rattle.spectrum.specs.Granted.{divided, where_granted}
use Rattle.matching.specs.declared.matched.Match.{Match}
use Rattle.matching.specs.Lags.{matches}
use Rattle.matching.specs.Matched.{matched}
use Rattle.handover.specs.declared.matches.Lags.{Lags}
use Rattle.handover.specs.declared.matches.Sum.{Sum}
use Rattle.crossing.specs.declared.status.Status.{Status}
use Rattle.crossing.specs.Answers.{status_of, answer_or}

-- the sum of a lag
abbrev pub sum : ℤ × ℤ → Sum
sum p = record { x = p.0; y = p.1 }

-- the best lags: whether there is one of the pressures, and 0 where there is none
abbrev pub lags : Match → Lags
lags m = record { path = m.lag; pressed = cond (is_some m.pressure) 1 0; pressure = unwrap_or m.pressure 0 }

-- the length n of the first stroke divides the path span, and where both have pressures the pressure span too
abbrev pub spans_divided : ℕ → Bool → Result (Unit {0}) Fault
spans_divided n pressed = result_and (divided path_span n) (cond pressed (divided pressure_span n) (Ok tt))

-- why strokes are refused of which a list is longer than a stroke may be: by that length, or for the list
abbrev pub too_long : ℕ → Bool → Result (Unit {0}) Fault
too_long n pressed = result_and (spans_divided n pressed) (Err Length)

pub record Matches (a b : Contents) (best : Lags) (out : List Sum) (status : Status) (best' : Lags) (out' : List Sum) : Type 0 where
  pub status_is : status ≡ status_of (matched a b (length out))
  pub best_is : best' ≡ answer_or best (result_map_both lags (λ f. f) (matched a b (length out)))
  pub out_is : out' ≡ where_granted (matched a b (length out)) (map sum (matches a.path b.path)) out

-- Which strokes are matched and what is answered: the lower number refuses first.
use Rattle.std.specs.Prelude.{ℕ, cond, ◌&&◌, List, length, pos, is_some, IfSome, Some, None, Ok, Err, Option, Result, ◌==◌}
use Rattle.std.specs.Result.{result_and, result_map_both}
use Rattle.path.specs.Paths.{span as path_span}
use Rattle.pressure.specs.Pressures.{span as pressure_span}
use Rattle.writing.specs.declared.lent.LentFault.{LentFault}
use Rattle.stroke.specs.Contents.{Contents, pressures}
use Rattle.writing.specs.Lending.{sized, within_limits}
use Rattle.refusal.specs.declared.Fault.{Fault}
use Rattle.refusal.specs.declared.Fault.TheVariants.{Lent, Length}
use Rattle.spectrum.specs.Granted.{divided}
use Rattle.matching.specs.declared.matched.Match.{Match}
use Rattle.matching.specs.Lags.{match_at, pressure_match, best_first, best_count, LeastBest}

-- the first stroke's length divides the path span, and the pressure span too where both have pressures
abbrev pub spans : Contents → Contents → Result (Unit {0}) Fault
spans a b =
    result_and (divided path_span (length a.path))
    (cond (is_some a.pressure && is_some b.pressure) (divided pressure_span (length a.path)) (Ok tt))

-- what a lent stroke is refused by is carried whole
abbrev pub carried : Result (Unit {0}) LentFault → Result (Unit {0}) Fault
carried r = result_map_both (λ granted. granted) Lent r

-- each stroke has 1 to 512 samples and as many pressures if any, and the other stroke and the list are as long as the first
abbrev pub lengths : Contents → Contents → ℕ → Result (Unit {0}) Fault
lengths a b room =
    result_and (carried (sized a)) (result_and (carried (sized b))
    (cond (length b.path == length a.path && room == length a.path) (Ok tt) (Err Length)))

-- every count is within its limits, the first stroke's before the second's
abbrev pub limits : Contents → Contents → Result (Unit {0}) Fault
limits a b = result_and (carried (within_limits a)) (carried (within_limits b))

-- the three together
abbrev pub granted : Contents → Contents → ℕ → Result (Unit {0}) Fault
granted a b room = result_and (spans a b) (result_and (lengths a b room) (limits a b))

-- the best lag of the pressures, and none where either stroke has none
abbrev pub pressure_lag : Option (List ℕ) → Option (List ℕ) → Option ℕ
pressure_lag (Some p) (Some q) = Some (best_count (pressure_match p q) (length p))
pressure_lag (Some p) None = None
pressure_lag None q = None

-- what is answered of two strokes and a list of a length
abbrev pub matched : Contents → Contents → ℕ → Result Match Fault
matched a b room =
    result_and (spans a b) (result_and (lengths a b room) (result_and (limits a b)
    (Ok (record { lag = best_first (match_at a.path b.path) (length a.path); pressure = pressure_lag a.pressure b.pressure }))))

-- both lags are the least of the largest
pub record BestLags (a b : Contents) (m : Match) : Type 0 where
  pub path : LeastBest (λ lag. (match_at a.path b.path lag).0) (length a.path) m.lag
  pub pressure : IfSome m.pressure (LeastBest (λ lag. pos (pressure_match (pressures a) (pressures b) lag)) (length a.path))

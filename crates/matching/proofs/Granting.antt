-- What is known of two strokes that are granted, and what is then answered.
use Rattle.std.proofs.Common.{◌≡◌, ℕ, ◌<◌, ◌≤◌, List, [], length, pos, IfSome, Some, None, Ok, Err, Option, Result, unwrap_or, sym, refl, ap, ◌∙◌, arith}
use Rattle.std.specs.Result.{result_and}
use Rattle.std.specs.List.{AllByRecursion}
use Rattle.std.proofs.lemmas.Bool.Decides.{nat_tests}
use Rattle.writing.specs.declared.lent.LentFault.{LentFault}
use Rattle.stroke.specs.Contents.{Contents, Sound, limit}
use Rattle.writing.proofs.Granting.{sound_lent}
use Rattle.refusal.specs.declared.Fault.{Fault}
use Rattle.matching.specs.declared.matched.Match.{Match}
use Rattle.matching.specs.Lags.{match_at, pressure_match, best_first, LeastBest}
use Rattle.matching.specs.Matched.{spans, carried, lengths, limits, granted, pressure_lag, matched, BestLags}
use Rattle.matching.proofs.Best.{least_best}

-- both strokes are sound, and both and the list are of one length
pub record Fit (a b : Contents) (room : ℕ) : Type 0 where
  pub first : Sound a
  pub second : Sound b
  pub same : length b.path ≡ length a.path
  pub whole : room ≡ length a.path

and_both : {T E : Type 0} (r : Result (Unit {0}) E) (s : Result T E) (x : T) → Ok x ≡ result_and r s → (Ok tt ≡ r) × (Ok x ≡ s)
and_both (Ok u) s x e = (refl, e)
and_both (Err f) s x e = let z : ◌≡◌ {A = ℕ} 0 1 = cc in absurd (omega arith)

uncarried : (r : Result (Unit {0}) LentFault) → Ok tt ≡ carried r → Ok tt ≡ r
uncarried (Ok u) e = refl
uncarried (Err f) e = let z : ◌≡◌ {A = ℕ} 0 1 = cc in absurd (omega arith)

module _ (a b : Contents) (room : ℕ) (all : Ok tt ≡ granted a b room) where
  pub fit : Fit a b room
  fit =
      let rest = (and_both (spans a b) _ tt all).1 in
      let sizes = (and_both (lengths a b room) _ tt rest).0 in
      let counts = (and_both (lengths a b room) _ tt rest).1 in
      let one = and_both _ _ tt sizes in
      let two = and_both _ _ tt one.1 in
      let three = and_both _ _ tt counts in
      let same_lengths = two.1 in
      record {
        first = sound_lent a (uncarried _ one.0) (uncarried _ three.0);
        second = sound_lent b (uncarried _ two.0) (uncarried _ three.1);
        same = grind (arith, nat_tests);
        whole = grind (arith, nat_tests);
      }

  granted_parts : (Ok tt ≡ spans a b) × ((Ok tt ≡ lengths a b room) × (Ok tt ≡ limits a b))
  granted_parts =
      let rest = and_both (spans a b) _ tt all in
      (rest.0, and_both (lengths a b room) _ tt rest.1)

  pub answered : (lag : ℕ) (pressure : Option ℕ) → lag ≡ best_first (match_at a.path b.path) (length a.path)
      → pressure ≡ pressure_lag a.pressure b.pressure → Ok (record { lag = lag; pressure = pressure }) ≡ matched a b room
  answered lag pressure lag_is pressure_is =
      let parts = granted_parts in rw (sym parts.0, sym parts.1.0, sym parts.1.1, lag_is, pressure_is) refl

-- what is refused is refused by the first of the three that refuses
and_and : {T E : Type 0} (r s t : Result (Unit {0}) E) (x : Result T E)
    → result_and (result_and r (result_and s t)) x ≡ result_and r (result_and s (result_and t x))
and_and (Ok u) (Ok v) t x = refl
and_and (Ok u) (Err f) t x = refl
and_and (Err f) s t x = refl

pub refused : (a b : Contents) (room : ℕ) (f : Fault) → Err f ≡ granted a b room → Err f ≡ matched a b room
refused a b room f none =
    let m : Match = record { lag = best_first (match_at a.path b.path) (length a.path); pressure = pressure_lag a.pressure b.pressure } in
    ap (λ r. result_and r (Ok m)) none ∙ and_and (spans a b) (lengths a b room) (limits a b) (Ok m)

-- ---- both lags are best
pressure_best : (o u : Option (List ℕ)) (n : ℕ) → 0 < n → IfSome o (λ us. (length us ≡ n) × AllByRecursion (λ u. u ≤ limit) us)
    → IfSome (pressure_lag o u) (LeastBest (λ lag. pos (pressure_match (unwrap_or o []) (unwrap_or u []) lag)) n)
pressure_best (Some p) (Some q) n some long = rw long.0 (least_best (λ lag. pos (pressure_match p q lag)) n some)
pressure_best (Some p) None n some long = tt
pressure_best None u n some long = tt

pub best_lags : (a b : Contents) → Sound a → (lag : ℕ) (pressure : Option ℕ) → lag ≡ best_first (match_at a.path b.path) (length a.path)
    → pressure ≡ pressure_lag a.pressure b.pressure → BestLags a b (record { lag = lag; pressure = pressure })
best_lags a b h lag pressure lag_is pressure_is =
    record {
      path = rw lag_is (least_best (λ lag. (match_at a.path b.path lag).0) (length a.path) h.some);
      pressure = rw pressure_is (pressure_best a.pressure b.pressure (length a.path) h.some h.pressed);
    }

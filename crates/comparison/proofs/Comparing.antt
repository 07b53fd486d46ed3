-- What is answered of two files, and of two strokes that were copied.
use Rattle.std.proofs.Common.{◌≡◌, ℕ, ◌<◌, ◌≤◌, List, ◌++◌, length, get_or, take, ℤ, IsErrAnd, IfOk, Ok, Err, Result, sym, ap, ◌∙◌, subst, arith}
use Rattle.std.specs.Result.{result_map_both}
use Rattle.std.proofs.lemmas.List.FromFn.{length-map-range_with_len, get_or-map-range_with_len}
use Rattle.std.proofs.lemmas.List.{get_or_append_left, length-take-le}
use Rattle.std.proofs.lemmas.Result.{IfOk-weaker}
use Rattle.refusal.specs.declared.Fault.{Fault}
use Rattle.refusal.specs.declared.Fault.TheVariants.{File}
use Rattle.stroke.specs.declared.fault.FileFault.{FileFault}
use Rattle.stroke.specs.Contents.{Contents, most_samples}
use Rattle.stroke.specs.Reading.{decode}
use Rattle.matching.specs.declared.matched.Match.{Match}
use Rattle.matching.specs.Lags.{origin, match_at, matches}
use Rattle.matching.specs.Matched.{matched, BestLags}
use Rattle.comparison.specs.declared.files.Comparison.{Comparison}
use Rattle.comparison.specs.Compared.{with_sum, compared_strokes, compared_reads, compared, Best, BestOf}

-- a refusal is told as it is
pub told : (s r : Result Comparison Fault) (f : Fault) → s ≡ Err f → IsErrAnd r (λ g. g ≡ f) → r ≡ s
told s (Ok x) f is by = absurd by
told s (Err g) f is by = ap Err by ∙ sym is

module _ (bs cs : List ℕ) where
  pub first_unread : (f : FileFault) → decode bs ≡ Err f → compared bs cs ≡ Err (File f)
  unfolding compared
  first_unread f is = ap (λ r. compared_reads r (decode cs)) is

  module _ (a : Contents) (first : decode bs ≡ Ok a) where
    pub second_unread : (f : FileFault) → decode cs ≡ Err f → compared bs cs ≡ Err (File f)
    unfolding compared
    second_unread f is = ap (λ r. compared_reads r (decode cs)) first ∙ ap (compared_reads (Ok a)) is

    pub both_read : (b : Contents) → decode cs ≡ Ok b → (r : Result Comparison Fault) → r ≡ compared_strokes a b → r ≡ compared bs cs
    unfolding compared
    both_read b is r answer = answer ∙ sym (ap (λ r. compared_reads r (decode cs)) first ∙ ap (compared_reads (Ok a)) is)

    pub both_best : (b : Contents) → decode cs ≡ Ok b → (r : Result Comparison Fault) → IfOk r (Best a b) → IfOk r (BestOf bs cs)
    both_best b is r best =
        IfOk-weaker r (Best a b) (BestOf bs cs) (λ c h. record { first = a; second = b; read_first = first; read_second = is; best = h }) best

-- the front of a list for the longest stroke
pub front_long : (n len : ℕ) (sums : List (ℤ × ℤ)) → n ≡ len → n ≤ most_samples → length sums ≡ most_samples → length (take n sums) ≡ len
front_long n len sums is few long = length-take-le n sums (omega arith) ∙ is

-- the strokes x and y are lent in place of a and b, with room for as many pairs
module _ (a b x y : Contents) (room : ℕ) (left : x ≡ a) (right : y ≡ b) (whole : room ≡ length a.path) where
  matched_is : matched x y room ≡ matched a b (length a.path)
  matched_is i = matched (left i) (right i) (whole i)

  pub refused : (f : Fault) → Err f ≡ matched x y room → compared_strokes a b ≡ Err f
  unfolding compared_strokes
  refused f is = ap (result_map_both (with_sum a b) (λ g. g)) (sym (is ∙ matched_is))

  sum_there : (lag : ℕ) (out rest : List (ℤ × ℤ)) → out ≡ matches x.path y.path → lag < length x.path → get_or (out ++ rest) lag origin ≡ match_at a.path b.path lag
  sum_there lag out rest is below =
      let long = length-map-range_with_len (match_at x.path y.path) 0 (length x.path) in
      let inside : lag < length out = omega (arith, ap length is) in
      get_or_append_left out rest origin lag inside
      ∙ ap (λ o. get_or o lag origin) is
      ∙ get_or-map-range_with_len (match_at x.path y.path) 0 (length x.path) lag lag origin below (omega arith)
      ∙ (λ i. match_at (left i).path (right i).path lag)

  pub granted : (m : Match) (out rest : List (ℤ × ℤ)) → Ok m ≡ matched x y room → out ≡ matches x.path y.path → m.lag < length x.path
      → Ok (record { lag = m.lag; sum = get_or (out ++ rest) m.lag origin; pressure = m.pressure }) ≡ compared_strokes a b
  unfolding compared_strokes
  granted m out rest is filled below =
      ap (λ (sum : ℤ × ℤ). Ok (record { lag = m.lag; sum = sum; pressure = m.pressure })) (sum_there m.lag out rest filled below)
      ∙ ap (result_map_both (with_sum a b) (λ g. g)) (is ∙ matched_is)

  pub granted_best : (m : Match) (out rest : List (ℤ × ℤ)) → out ≡ matches x.path y.path → BestLags x y m
      → Best a b (record { lag = m.lag; sum = get_or (out ++ rest) m.lag origin; pressure = m.pressure })
  granted_best m out rest filled best = record {
    lags = subst (λ (z : Contents). BestLags z b m) left (subst (λ (z : Contents). BestLags x z m) right best);
    sum = sum_there m.lag out rest filled best.path.below;
  }

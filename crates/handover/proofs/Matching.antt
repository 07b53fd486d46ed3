-- What a match comes to for C, also where a list is longer than a stroke may be.
use Rattle.std.proofs.Common.{◌≡◌, ℕ, ◌<◌, ◌≤◌, cond, ◌&&◌, eqb, ◌⊎◌, List, map, length, take, ℤ, Ok, Err, Result, sym, refl, ap, ◌∙◌, inl, inr, ⊎_elim, arith}
use Rattle.std.proofs.lemmas.List.{length-take-le}
use Rattle.std.proofs.lemmas.Bool.Decides.{nat_tests}
use Rattle.std.specs.Result.{result_and, result_map_both}
use Rattle.writing.specs.declared.lent.LentFault.TheVariants.{Length as LentLength}
use Rattle.stroke.specs.Contents.{Contents, most_samples}
use Rattle.writing.specs.Lending.{sized}
use Rattle.refusal.specs.declared.Fault.{Fault}
use Rattle.refusal.specs.declared.Fault.TheVariants.{Lent, Length}
use Rattle.matching.specs.declared.matched.Match.{Match}
use Rattle.matching.specs.Lags.{matches}
use Rattle.matching.specs.Matched.{spans, carried, lengths, matched}
use Rattle.handover.specs.declared.matches.Lags.{Lags}
use Rattle.handover.specs.declared.matches.Sum.{Sum}
use Rattle.crossing.specs.declared.status.Status.{Status}
use Rattle.spectrum.specs.Granted.{where_granted}
use Rattle.crossing.specs.Answers.{status_of, answer_or}
use Rattle.handover.specs.Matching.{sum, lags, Matches}
use Rattle.handover.proofs.Lent.{sized_few, sized_either}

-- refused for a length, by either of the two faults that say so
abbrev ForLength : Result (Unit {0}) Fault → Type 0
ForLength r = (r ≡ Err Length) ⊎ (r ≡ Err (Lent LentLength))

abbrev same_room : ℕ → ℕ → ℕ → Result (Unit {0}) Fault
same_room n m room = cond (eqb m n && eqb room n) (Ok tt) (Err Length)

other_room : (n m room : ℕ) → n ≤ most_samples → m ≤ most_samples → (most_samples < n) ⊎ ((most_samples < m) ⊎ (most_samples < room)) → same_room n m room ≡ Err Length
other_room n m room first second long = grind (arith, nat_tests)

module _ (a b : Contents) (room : ℕ) (long : (most_samples < length a.path) ⊎ ((most_samples < length b.path) ⊎ (most_samples < room))) where
  for_length : ForLength (lengths a b room)
  for_length =
      let last = same_room (length a.path) (length b.path) room in
      ⊎_elim
      (λ (one : sized a ≡ Ok tt). ⊎_elim
      (λ (two : sized b ≡ Ok tt). inl
      (ap (λ x. result_and (carried x) (result_and (carried (sized b)) last)) one ∙ ap (λ x. result_and (carried x) last) two
      ∙ other_room (length a.path) (length b.path) room (sized_few a one) (sized_few b two) long))
      (λ (two : sized b ≡ Err LentLength). inr (ap (λ x. result_and (carried x) (result_and (carried (sized b)) last)) one ∙ ap (λ x. result_and (carried x) last) two))
      (sized_either b))
      (λ (one : sized a ≡ Err LentLength). inr (ap (λ x. result_and (carried x) (result_and (carried (sized b)) last)) one))
      (sized_either a)

-- what is known of a call that is refused as another would be
pub record RefusedAs (r : Result Match Fault) (other : Result (Unit {0}) Fault) : Type 0 where
  pub fault : Fault
  pub is : r ≡ Err fault
  pub alike : status_of r ≡ status_of other

refused_as : (first second : Result (Unit {0}) Fault) (rest : Result Match Fault) → ForLength second → RefusedAs (result_and first (result_and second rest)) (result_and first (Err Length))
refused_as (Err e) second rest by = record { fault = e; is = refl; alike = refl }
refused_as (Ok _) second rest by = ⊎_elim
    (λ (is : second ≡ Err Length). record { fault = Length; is = ap (λ x. result_and x rest) is; alike = ap (λ x. status_of (result_and x rest)) is })
    (λ (is : second ≡ Err (Lent LentLength)). record { fault = Lent LentLength; is = ap (λ x. result_and x rest) is; alike = ap (λ x. status_of (result_and x rest)) is }) by

module _ (a b : Contents) (best : Lags) (out : List Sum) (long : (most_samples < length a.path) ⊎ ((most_samples < length b.path) ⊎ (most_samples < length out))) where
  refusal : RefusedAs (matched a b (length out)) (result_and (spans a b) (Err Length))
  refusal = refused_as (spans a b) (lengths a b (length out)) _ (for_length a b (length out) long)

  pub long_refused : (r : Result (Unit {0}) Fault) (status : Status) → r ≡ result_and (spans a b) (Err Length) → status ≡ status_of r → Matches a b best out status best out
  long_refused r status is told =
      let by = refusal in
      record {
        status_is = told ∙ ap status_of is ∙ sym by.alike;
        best_is = ap (λ x. answer_or best (result_map_both lags (λ e. e) x)) (sym by.is);
        out_is = ap (λ x. where_granted x (map sum (matches a.path b.path)) out) (sym by.is);
      }

-- the numbers of a match have its status and its grant
same_status : (s : Result Match Fault) → status_of (result_map_both lags (λ f. f) s) ≡ status_of s
same_status (Ok m) = refl
same_status (Err f) = refl

same_grant : (s : Result Match Fault) (new out : List Sum) → where_granted (result_map_both lags (λ f. f) s) new out ≡ where_granted s new out
same_grant (Ok m) new out = refl
same_grant (Err f) new out = refl

pub short_matched : (a b : Contents) (best best' : Lags) (out out' : List Sum) (r : Result Lags Fault) (status : Status) → r ≡ result_map_both lags (λ f. f) (matched a b (length out)) → out' ≡ where_granted r (map sum (matches a.path b.path)) out → status ≡ status_of r → best' ≡ answer_or best r → Matches a b best out status best' out'
short_matched a b best best' out out' r status is after told answer =
    let s = matched a b (length out) in
    let new = map sum (matches a.path b.path) in
    record {
      status_is = told ∙ ap status_of is ∙ same_status s;
      best_is = answer ∙ ap (answer_or best) is;
      out_is = after ∙ ap (λ x. where_granted x new out) is ∙ same_grant s new out;
    }

-- the front of a list for the longest stroke
pub front_long : (n : ℕ) (sums : List (ℤ × ℤ)) → n ≤ most_samples → length sums ≡ most_samples → length (take n sums) ≡ n
front_long n sums few long = length-take-le n sums (omega arith)

-- What a granted call knows of its sheet.
use Rattle.std.proofs.Common.{◌≡◌, ℕ, ◌+◌, ◌*◌, ◌<◌, ◌≤◌, true, List, Ok, Err, Result, refl, ap, ◌∙◌, arith}
use Rattle.std.proofs.lemmas.Bool.Decides.{nat_tests}
use Rattle.std.specs.Result.{result_and}
use Rattle.arithmetic.specs.Meaning.{Meaning}
use Rattle.arithmetic.specs.Laws.{Divides}
use Rattle.refusal.specs.declared.Fault.{Fault}
use Rattle.plan.specs.Radices.{size, turns}
use Rattle.spectrum.specs.Granted.{scratch, divided, lent, plans, whole, transformed}
use Rattle.cells.specs.Plain.{numbered}
use Rattle.cells.specs.Cells.{sheet_for}
use Rattle.cells.specs.Opening.{sized}

-- n samples with their tones fit into len cells
pub record Fits {A R : Type 0} (m : Meaning A R) (n len : ℕ) : Type 0 where
  pub divides : Divides n m.span
  pub exact : m.exact ≡ true
  pub whole : len ≡ 2 * n

pub fits_from_granted : {A R : Type 0} (m : Meaning A R) (n len : ℕ) → Ok tt ≡ sheet_for m n len → Fits m n len
fits_from_granted m n len is =
    record { divides = grind (arith, nat_tests); exact = grind (arith, nat_tests); whole = grind (arith, nat_tests) }

pub sheet_granted : {A R : Type 0} (m : Meaning A R) (n len : ℕ) → Divides n m.span → m.exact ≡ true → len ≡ 2 * n → Ok tt ≡ sheet_for m n len
sheet_granted m n len divides exact whole = grind (arith, nat_tests)

pub numbered_within : (n k : ℕ) → Ok tt ≡ numbered n k → k < n
numbered_within n k is = grind (arith, nat_tests)

pub whole_length : (n len : ℕ) → Ok tt ≡ whole n len → len ≡ n
whole_length n len is = grind (arith, nat_tests)

-- where nothing is refused, the call answers
pub both_granted : {X : Type 0} (first : Result (Unit {0}) Fault) (answer : Result X Fault) → Ok tt ≡ first → answer ≡ result_and first answer
both_granted first answer one = cc

-- radices that are a plan, whose length n has a sheet in len cells
pub record Sized {A R : Type 0} (m : Meaning A R) (rs : List ℕ) (len n : ℕ) : Type 0 where
  pub granted : List ℕ
  pub plan : Ok granted ≡ plans rs
  pub sheet : Ok tt ≡ sheet_for m (size rs) len
  pub length : n ≡ size rs

from_both : (p : Result (List ℕ) Fault) (s : Result (Unit {0}) Fault) (n k : ℕ) → Ok n ≡ result_and p (result_and s (Ok k)) → ((qs : List ℕ) × (Ok qs ≡ p)) × (Ok tt ≡ s) × (n ≡ k)
from_both (Ok rs) (Ok done) n k is = ((rs, refl), refl, cc)
from_both (Ok rs) (Err f) n k is = absurd (cc)
from_both (Err f) s n k is = absurd (cc)

pub sized_from_granted : {A R : Type 0} (m : Meaning A R) (rs : List ℕ) (len n : ℕ) → Ok n ≡ sized m rs len → Sized m rs len n
sized_from_granted m rs len n is =
    let s = from_both (plans rs) (sheet_for m (size rs) len) n (size rs) is in
    record { granted = s.0.0; plan = s.0.1; sheet = s.1; length = s.2 }

module _ {A R : Type 0} (m : Meaning A R) (rs : List ℕ) (len n work : ℕ) (is : Ok n ≡ sized m rs len) (room : n + scratch ≤ work) where
  -- a transform of the second half is not refused
  pub transform_granted : Ok (turns rs) ≡ transformed m.span rs n work
  transform_granted =
      let s = sized_from_granted m rs len n is in
      let l = s.length in
      let p = s.plan in
      let d = (fits_from_granted m (size rs) len s.sheet).divides in
      let divides : Ok tt ≡ divided m.span (size rs) = grind (arith, nat_tests) in
      let lends : Ok tt ≡ lent (size rs) n work = grind (arith, nat_tests) in
      let tail = both_granted (lent (size rs) n work) (Ok (turns rs)) lends ∙ both_granted (divided m.span (size rs)) _ divides in
      tail ∙ ap (λ x. result_and x (result_and (divided m.span (size rs)) (result_and (lent (size rs) n work) (Ok (turns rs))))) p

  pub transform_not_refused : (k room' : ℕ) (f : Fault) → k ≡ n → room' ≡ work → Err f ≡ transformed m.span rs k room' → ⊥
  transform_not_refused k room' f one two refused =
      let grants = transform_granted in
      let both : Err f ≡ transformed m.span rs n work = refused ∙ ap (λ x. transformed m.span rs x room') one ∙ ap (transformed m.span rs n) two in
      cc

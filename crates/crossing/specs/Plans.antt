-- The standard plan for C: its radices in a lent list, or why there are none.
use Rattle.std.specs.Prelude.{◌≡◌, ℕ, cond, List, length, Ok, Err, Result, nat_le}
use Rattle.std.specs.Result.{result_map_both}
use Rattle.plan.specs.declared.fault.PlanFault.{PlanFault}
use Rattle.plan.specs.Standard.{standard}
use Rattle.refusal.specs.declared.Fault.{Fault}
use Rattle.refusal.specs.declared.Fault.TheVariants.{Plan, Length}
use Rattle.crossing.specs.declared.status.Status.{Status}
use Rattle.crossing.specs.Answers.{status_of, answer_or, in_front}

-- the radices, where there is room for so many
abbrev pub with_room : ℕ → Result (List ℕ) PlanFault → Result (List ℕ) Fault
with_room room (Err f) = Err (Plan f)
with_room room (Ok rs) = cond (nat_le (length rs) room) (Ok rs) (Err Length)

-- of the standard plan of n: refused by the length, then by what was lent
unfoldable pub standard_in : ℕ → ℕ → Result (List ℕ) Fault
standard_in room n = with_room room (standard n)

-- the status, and then how many radices there are and the list
pub record Plans (n count : ℕ) (radices : List ℕ) (status : Status) (count' : ℕ) (radices' : List ℕ) : Type 0 where
  pub status_is : status ≡ status_of (standard_in (length radices) n)
  pub count_is : count' ≡ answer_or count (result_map_both length (λ f. f) (standard_in (length radices) n))
  pub radices_are : radices' ≡ in_front (standard_in (length radices) n) radices

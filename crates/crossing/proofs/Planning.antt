-- How far a length gets on its way to its standard plan in a lent list.
use Rattle.std.proofs.Common.{◌≡◌, ℕ, ◌<◌, ◌≤◌, List, length, Ok, Err, sym, ap, ◌∙◌, arith}
use Rattle.std.proofs.lemmas.Bool.Decides.{nat_tests}
use Rattle.plan.specs.declared.fault.PlanFault.{PlanFault}
use Rattle.plan.specs.Standard.{standard}
use Rattle.refusal.specs.declared.Fault.TheVariants.{Plan, Length}
use Rattle.crossing.specs.Plans.{with_room, standard_in}

module _ (rs : List ℕ) (room : ℕ) where
  refused : room < length rs → with_room room (Ok rs) ≡ Err Length
  refused short = grind (arith, nat_tests)

  granted : length rs ≤ room → with_room room (Ok rs) ≡ Ok rs
  granted enough = grind (arith, nat_tests)

module _ (room n : ℕ) where
  pub unplanned : (f : PlanFault) → Err f ≡ standard n → standard_in room n ≡ Err (Plan f)
  unfolding standard_in
  unplanned f none = ap (with_room room) (sym none)

  module _ (rs : List ℕ) (plan : Ok rs ≡ standard n) where
    pub too_short : room < length rs → standard_in room n ≡ Err Length
    unfolding standard_in
    too_short short = ap (with_room room) (sym plan) ∙ refused rs room short

    pub planned : length rs ≤ room → standard_in room n ≡ Ok rs
    unfolding standard_in
    planned enough = ap (with_room room) (sym plan) ∙ granted rs room enough

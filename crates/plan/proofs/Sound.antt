-- What was checked is a plan, which stands at the front of its room.
use Rattle.std.proofs.Common.{◌≡◌, ℕ, ◌≤◌, List, ◌++◌, length, take, refl, ap, ◌∙◌, arith}
use Rattle.std.proofs.lemmas.List.{length-take, take_at}
use Rattle.plan.specs.declared.validated.Plan.{Plan as Checked}
use Rattle.plan.specs.Radices.{most_radices, Plan}
use Rattle.plan.specs.Planned.{radices_of}

pub front_of : (rs rest room : List ℕ) → room ≡ rs ++ rest → take (length rs) room ≡ rs
front_of rs rest room is = ap (take (length rs)) is ∙ take_at rs rest (length rs) refl

pub checked_few : (p : Checked) → length (radices_of p) ≤ most_radices
checked_few p = let few = p.few in simp length-take (omega arith)

pub checked_plan : (p : Checked) → Plan (radices_of p)
checked_plan p =
    let whole = p.whole in
    let small = p.small in
    record { few = checked_few p; each = p.each; small = omega arith }

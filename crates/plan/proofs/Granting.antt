-- A list of radices that is a plan is granted as one.
use Rattle.std.proofs.Common.{◌≡◌, ℕ, zero, suc, ◌+◌, ◌<◌, ◌≤◌, List, [], ◌∷◌, get_or, take, Ok, Err, Result, ap, ⊎_elim, mul-le-mul_left, arith}
use Rattle.plan.specs.declared.fault.PlanFault.{PlanFault}
use Rattle.plan.specs.declared.fault.PlanFault.TheVariants.{TooMany, Radix, Product, Length}
use Rattle.plan.specs.Radices.{size, least_radix, largest_radix, Each, Plan}
use Rattle.plan.specs.Planned.{planned}
use Rattle.plan.specs.Judged.{Judged}
use Rattle.plan.proofs.Judging.{planned_judged}
use Rattle.plan.proofs.Sizes.{each_tail, size_positive}

size_take_le : (rs : List ℕ) (i : ℕ) → Each rs → size (take i rs) ≤ size rs
size_take_le rs zero each = size_positive rs each
size_take_le [] (suc i) each = omega arith
size_take_le (r ∷ rs) (suc i) each = mul-le-mul_left r (size_take_le rs i (each_tail r rs each))

pub plan_granted : (rs : List ℕ) → Plan rs → planned rs ≡ Ok rs
plan_granted rs p = by_answer (planned rs) (planned_judged rs)
  where
    by_answer : (r : Result (List ℕ) PlanFault) → Judged rs r → r ≡ Ok rs
    by_answer (Ok granted) j = ap Ok j.0
    by_answer (Err TooMany) j = let few = p.few in absurd (omega arith)
    by_answer (Err (Radix i)) j =
        let inside = p.each i j.there in
        absurd (⊎_elim (λ (low : get_or rs i 0 < least_radix). omega arith) (λ (high : largest_radix < get_or rs i 0). omega arith) j.outside)
    by_answer (Err (Product i)) j =
        let small = p.small in
        let part = size_take_le rs (i + 1) j.each in
        let passes = j.passes in absurd (omega arith)
    by_answer (Err (Length n)) j = absurd j

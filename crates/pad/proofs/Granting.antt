-- What was granted for a plan is granted to the transform under it.
use Rattle.std.proofs.Common.{◌≡◌, ℕ, List, Ok, Err, Result, sym, refl, ap, ◌∙◌, arith}
use Rattle.std.specs.Result.{result_and, result_map_both}
use Rattle.plan.specs.declared.validated.Plan.{Plan}
use Rattle.plan.specs.Planned.{radices_of}
use Rattle.plan.specs.Radices.{size, turns, Plan as IsPlan}
use Rattle.plan.proofs.Granting.{plan_granted}
use Rattle.refusal.specs.declared.Fault.{Fault}
use Rattle.refusal.specs.declared.Fault.TheVariants.{Plan as OfPlan}
use Rattle.spectrum.specs.Granted.{divided, lent, transformed}

-- where two tests refuse nothing, what comes after them is answered
pub both_granted : {X : Type 0} (first second : Result (Unit {0}) Fault) (answer : Result X Fault) → Ok tt ≡ result_and first second → result_and first (result_and second answer) ≡ answer
both_granted (Ok _) (Ok _) answer is = refl
both_granted (Ok _) (Err e) answer is = let z : ◌≡◌ {A = ℕ} 0 1 = cc in absurd (omega arith)
both_granted (Err e) second answer is = let z : ◌≡◌ {A = ℕ} 0 1 = cc in absurd (omega arith)

transform_granted : (span : ℕ) (rs : List ℕ) (buf work : ℕ) → IsPlan rs → Ok tt ≡ result_and (divided span (size rs)) (lent (size rs) buf work) → transformed span rs buf work ≡ Ok (turns rs)
transform_granted span rs buf work plan is =
    let first = divided span (size rs) in
    let second = lent (size rs) buf work in
    ap (λ r. result_and (result_map_both (λ (granted : List ℕ). granted) OfPlan r) (result_and first (result_and second (Ok (turns rs))))) (plan_granted rs plan)
    ∙ both_granted first second (Ok (turns rs)) is

-- the same of a plan by its radices, and of a buffer by its length
pub granted_here : (plan : Plan) (rs : List ℕ) (span before after work : ℕ) → rs ≡ radices_of plan → IsPlan rs → after ≡ before
    → Ok tt ≡ result_and (divided span (size (radices_of plan))) (lent (size (radices_of plan)) before work) → transformed span rs after work ≡ Ok (turns (radices_of plan))
granted_here plan rs span before after work same is_plan long is =
    ap (λ n. transformed span rs n work) long
    ∙ transform_granted span rs before work is_plan (is ∙ ap (λ x. result_and (divided span (size x)) (lent (size x) before work)) (sym same))
    ∙ ap (λ x. Ok (turns x)) same

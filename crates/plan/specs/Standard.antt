-- The standard plan of a length, or its refusal.
use Rattle.std.specs.Prelude.{ℕ, zero, suc, ◌+◌, ◌/◌, ◌%◌, cond, ◌&&◌, List, [], ◌∷◌, length, Some, None, Err, Option, Result, ◌==◌, nat_le}
use Rattle.std.specs.Option.{ok_or, option_map}
use Rattle.plan.specs.declared.fault.PlanFault.{PlanFault}
use Rattle.plan.specs.declared.fault.PlanFault.TheVariants.{Length}
use Rattle.plan.specs.Radices.{most_radices, largest_size}

-- the radices of a standard plan, in the order in which they are tried
abbrev pub standard_radices : List ℕ
standard_radices = 4 ∷ 2 ∷ 3 ∷ 5 ∷ 7 ∷ []

-- takes the first radix of the list while it divides what is left, then the next; k bounds the steps
abbrev pub factors : ℕ → List ℕ → ℕ → Option (List ℕ)
factors k [] left = cond (left == 1) (Some []) None
factors zero (r ∷ rs) left = None
factors (suc k) (r ∷ rs) left =
    cond (left % r == 0) (option_map (λ taken. r ∷ taken) (factors k (r ∷ rs) (left / r))) (factors k rs left)

-- a step takes a radix or goes on to the next
abbrev pub most_steps : ℕ
most_steps = most_radices + length standard_radices

-- the radices of the standard plan of n: of no n outside 1 to 512, and of none of which something is left
abbrev pub standard : ℕ → Result (List ℕ) PlanFault
standard n =
    cond (nat_le 1 n && nat_le n largest_size) (ok_or (factors most_steps standard_radices n) (Length n)) (Err (Length n))

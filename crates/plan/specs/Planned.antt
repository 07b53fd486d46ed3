-- Which lists of radices are granted as plans, and how the others are refused: the lowest number first, and of several offenders the first.
use Rattle.std.specs.Prelude.{ℕ, ◌+◌, ◌*◌, Bool, cond, ◌&&◌, List, [], ◌∷◌, length, take, Ok, Err, Result, nat_le}
use Rattle.std.specs.Result.{result_and}
use Rattle.plan.specs.declared.fault.PlanFault.{PlanFault}
use Rattle.plan.specs.declared.fault.PlanFault.TheVariants.{TooMany, Radix, Product}
use Rattle.plan.specs.declared.validated.Plan.{Plan}
use Rattle.plan.specs.Radices.{most_radices, least_radix, largest_radix, largest_size}

-- a radix that a plan may have
abbrev pub in_limits : ℕ → Bool
in_limits r = nat_le least_radix r && nat_le r largest_radix

-- refuses the first radix that is out of its limits; the list begins with radix i
abbrev pub ranged : ℕ → List ℕ → Result (Unit {0}) PlanFault
ranged i [] = Ok tt
ranged i (r ∷ rs) = cond (in_limits r) (ranged (i + 1) rs) (Err (Radix i))

-- n times the product of the list, which begins with radix i; refuses the first radix at which it passes 512
abbrev pub product : ℕ → ℕ → List ℕ → Result ℕ PlanFault
product n i [] = Ok n
product n i (r ∷ rs) = cond (nat_le (n * r) largest_size) (product (n * r) (i + 1) rs) (Err (Product i))

-- the list itself, or its first refusal
abbrev pub planned : List ℕ → Result (List ℕ) PlanFault
planned rs =
    cond (nat_le (length rs) most_radices) (result_and (ranged 0 rs) (result_and (product 1 0 rs) (Ok rs))) (Err TooMany)

-- the list of radices in a plan that was checked
abbrev pub radices_of : Plan → List ℕ
radices_of p = take p.count p.radices

-- a granted plan by its list of radices
abbrev pub as_list : Result Plan PlanFault → Result (List ℕ) PlanFault
as_list (Ok p) = Ok (radices_of p)
as_list (Err f) = Err f

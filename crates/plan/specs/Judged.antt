-- What is true of a list of radices by the answer that it gets.
use Rattle.std.specs.Prelude.{◌≡◌, ℕ, ◌+◌, ◌<◌, ◌≤◌, ◌⊎◌, List, length, take, Ok, Err, Result, slice_index}
use Rattle.plan.specs.declared.fault.PlanFault.{PlanFault}
use Rattle.plan.specs.declared.fault.PlanFault.TheVariants.{TooMany, Radix, Product, Length}
use Rattle.plan.specs.Radices.{size, most_radices, least_radix, largest_radix, largest_size, Each, Plan}
use Rattle.plan.specs.Planned.{planned}

-- radix i is the first that is out of its limits
pub record FirstOutside (rs : List ℕ) (i : ℕ) : Type 0 where
  pub few : length rs ≤ most_radices
  pub there : i < length rs
  pub before : Each (take i rs)
  pub outside : (slice_index rs i < least_radix) ⊎ (largest_radix < slice_index rs i)

-- every radix is in its limits, and radix i is the first at which the product passes the largest size
pub record FirstPassing (rs : List ℕ) (i : ℕ) : Type 0 where
  pub few : length rs ≤ most_radices
  pub each : Each rs
  pub there : i < length rs
  pub before : size (take i rs) ≤ largest_size
  pub passes : largest_size < size (take (i + 1) rs)

-- a granted list is a plan, and a refused one has the fault that it is refused for, and none that goes before
abbrev pub Judged : List ℕ → Result (List ℕ) PlanFault → Type 0
Judged rs (Ok granted) = (granted ≡ rs) × Plan rs
Judged rs (Err TooMany) = most_radices < length rs
Judged rs (Err (Radix i)) = FirstOutside rs i
Judged rs (Err (Product i)) = FirstPassing rs i
Judged rs (Err (Length n)) = ⊥

-- so it is of every list
abbrev pub PlansStand : Type 0
PlansStand = (rs : List ℕ) → Judged rs (planned rs)

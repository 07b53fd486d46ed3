-- The number and the place of every refusal of a plan.
use Rattle.std.specs.Prelude.{ℕ}
use Rattle.plan.specs.declared.fault.PlanFault.{PlanFault}
use Rattle.plan.specs.declared.fault.PlanFault.TheVariants.{TooMany, Radix, Product, Length}

-- the number by which a refusal is known everywhere
abbrev pub fault_number : PlanFault → ℕ
fault_number TooMany = 21
fault_number (Radix i) = 22
fault_number (Product i) = 23
fault_number (Length n) = 25

-- places count from 0: the index of the radix, or the length that was asked for
abbrev pub fault_place : PlanFault → ℕ
fault_place TooMany = 0
fault_place (Radix i) = i
fault_place (Product i) = i
fault_place (Length n) = n

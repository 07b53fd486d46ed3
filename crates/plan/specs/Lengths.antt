-- What is true of a length by the standard plan that it gets, or does not get.
use Rattle.std.specs.Prelude.{◌≡◌, ℕ, ◌<◌, ◌⊎◌, List, [], ◌∷◌, ◌++◌, replicate, Ok, Err, Result}
use Rattle.arithmetic.specs.Laws.{Prime, Divides}
use Rattle.plan.specs.declared.fault.PlanFault.{PlanFault}
use Rattle.plan.specs.declared.fault.PlanFault.TheVariants.{Length}
use Rattle.plan.specs.Radices.{size, largest_size, Plan}
use Rattle.plan.specs.Standard.{standard_radices, standard}

-- each radix that is tried is taken in turn, while it divides what is left: all of its kind, one after the other
abbrev pub InTurn : List ℕ → List ℕ → Type 0
InTurn [] rs = rs ≡ []
InTurn (r ∷ tried) rs =
    (times : ℕ) × (rest : List ℕ) × (rs ≡ replicate times r ++ rest) × (Divides r (size rest) → ⊥) × InTurn tried rest

-- the largest prime that divides a length with a standard plan
abbrev pub largest_factor : ℕ
largest_factor = 7

-- a prime factor above 7
abbrev pub LargeFactor : ℕ → Type 0
LargeFactor n = (q : ℕ) × Prime q × (largest_factor < q) × Divides q n

-- rs is the standard plan of n
pub record StandardPlan (n : ℕ) (rs : List ℕ) : Type 0 where
  pub product : size rs ≡ n
  pub plan : Plan rs
  pub in_turn : InTurn standard_radices rs
  pub no_large_factor : LargeFactor n → ⊥

-- why a length has no standard plan
abbrev pub NoStandardPlan : ℕ → Type 0
NoStandardPlan n = (n ≡ 0) ⊎ ((largest_size < n) ⊎ LargeFactor n)

-- a granted plan is the standard one, and a refused length has none
abbrev pub Granted : ℕ → Result (List ℕ) PlanFault → Type 0
Granted n (Ok rs) = StandardPlan n rs
Granted n (Err f) = (f ≡ Length n) × NoStandardPlan n

-- so it is of every length
abbrev pub StandardsStand : Type 0
StandardsStand = (n : ℕ) → Granted n (standard n)

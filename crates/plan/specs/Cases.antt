-- Worked cases of the definitions.
use Rattle.std.specs.Prelude.{◌≡◌, ℕ, List, [], ◌∷◌, replicate, Some, None, Ok, Err, Option, Result}
use Rattle.std.specs.List.{range_with_len}
use Rattle.plan.specs.declared.fault.PlanFault.{PlanFault}
use Rattle.plan.specs.Radices.{turns}
use Rattle.plan.specs.Dealing.{dealt}
use Rattle.plan.specs.Faults.{fault_number, fault_place}
use Rattle.plan.specs.Planned.{planned}
use Rattle.plan.specs.Standard.{standard}

-- the number and the place of a refusal
abbrev pub refusal : Result (List ℕ) PlanFault → Option (ℕ × ℕ)
refusal (Ok rs) = None
refusal (Err f) = Some (fault_number f, fault_place f)

-- each by its own computation
pub record WorkedCases : Type 0 where
  -- the samples 0 to 5, dealt
  pub by_two_three : dealt 0 (2 ∷ 3 ∷ []) (range_with_len 0 6) ≡ 0 ∷ 2 ∷ 4 ∷ 1 ∷ 3 ∷ 5 ∷ []
  pub by_three_two : dealt 0 (3 ∷ 2 ∷ []) (range_with_len 0 6) ≡ 0 ∷ 3 ∷ 1 ∷ 4 ∷ 2 ∷ 5 ∷ []
  pub turns_of_512 : turns (4 ∷ 4 ∷ 4 ∷ 4 ∷ 2 ∷ []) ≡ 9216
  pub three_eights : planned (8 ∷ 8 ∷ 8 ∷ []) ≡ Ok (8 ∷ 8 ∷ 8 ∷ [])
  pub nine_twos : planned (replicate 9 2) ≡ Ok (replicate 9 2)
  pub ten_twos : refusal (planned (replicate 10 2)) ≡ Some (21, 0)
  pub a_one : refusal (planned (1 ∷ [])) ≡ Some (22, 0)
  pub a_nine : refusal (planned (9 ∷ [])) ≡ Some (22, 0)
  pub past_512 : refusal (planned (8 ∷ 8 ∷ 8 ∷ 2 ∷ [])) ≡ Some (23, 3)
  pub standard_of_one : standard 1 ≡ Ok []
  pub standard_of_480 : standard 480 ≡ Ok (4 ∷ 4 ∷ 2 ∷ 3 ∷ 5 ∷ [])
  pub standard_of_512 : standard 512 ≡ Ok (4 ∷ 4 ∷ 4 ∷ 4 ∷ 2 ∷ [])
  pub no_standard_of_11 : refusal (standard 11) ≡ Some (25, 11)

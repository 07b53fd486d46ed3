-- Worked cases of the pressure arithmetic.
use Rattle.std.specs.Prelude.{◌≡◌, [], ◌∷◌, ℕ, ◌*◌, ◌/◌, ◌%◌, get_or}
use Rattle.arithmetic.specs.Series.{series}
use Rattle.pressure.specs.declared.Pressure.{Pressure}
use Rattle.pressure.specs.Pressures.{span, counted, pressures}

-- tone k of the samples 3 and 5, by the defining sum
abbrev pub tone : ℕ → Pressure
tone k = series pressures (λ t. pressures.turn (get_or (counted 3 ∷ counted 5 ∷ []) t pressures.zero) ((t * k) % 2 * (span / 2))) 2

pub record Worked : Type 0 where
  pub half : pressures.part (counted 1) 2 ≡ counted 1006632961
  pub first_tone : tone 0 ≡ counted 8
  pub second_tone : tone 1 ≡ counted 2013265919

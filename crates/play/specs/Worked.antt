-- A worked case: the pressure sheet of the samples 3 and 5.
use Rattle.std.specs.Prelude.{◌≡◌, ℕ, List, [], ◌∷◌}
use Rattle.pressure.specs.declared.Pressure.{Pressure}
use Rattle.pressure.specs.Pressures.{counted, pressures}
use Rattle.cells.specs.Opening.{filled}
use Rattle.cells.specs.Plain.{edit, shift}
use Rattle.cells.specs.Played.{sheet_after}

-- samples and tones
abbrev pub cells : ℕ → ℕ → ℕ → ℕ → List Pressure
cells a b x y = counted a ∷ counted b ∷ counted x ∷ counted y ∷ []

pub record WorkedCase : Type 0 where
  pub opened : filled pressures (2 ∷ []) (cells 3 5 0 0) ≡ cells 3 5 8 2013265919
  pub edited : sheet_after pressures 2 (edit 1 (counted 6)) (cells 3 5 8 2013265919) ≡ cells 3 6 9 2013265918
  pub shifted : sheet_after pressures 2 (shift 1) (cells 3 6 9 2013265918) ≡ cells 6 3 9 3

-- A worked case: a stroke of the one sample (0, 1) against one of (1, 0).
use Rattle.std.specs.Prelude.{◌≡◌, [], ◌∷◌, ℤ, pos, negsuc, None, Ok}
use Rattle.stroke.specs.Contents.{Contents}
use Rattle.matching.specs.Lags.{matches}
use Rattle.matching.specs.Matched.{matched}

abbrev pub single : ℤ × ℤ → Contents
single p = record { path = p ∷ []; pressure = None }

pub record Worked : Type 0 where
  pub pairs : matches ((pos 0, pos 1) ∷ []) ((pos 1, pos 0) ∷ []) ≡ (pos 0, negsuc 0) ∷ []
  pub answer : matched (single (pos 0, pos 1)) (single (pos 1, pos 0)) 1 ≡ Ok (record { lag = 0; pressure = None })

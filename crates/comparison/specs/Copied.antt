-- What copied samples hold.
use Rattle.std.specs.Prelude.{ℕ, List, Option}
use Rattle.std.specs.Option.{option_map}
use Rattle.arrayvec.specs.ArrayVec.{ArrayVec}
use Rattle.stroke.specs.Contents.{Contents}
use Rattle.comparison.specs.declared.samples.Samples.{Samples}

abbrev pub copied_pressure : Option (ArrayVec ℕ) → Option (List ℕ)
copied_pressure pressure = option_map (λ us. us.items) pressure

abbrev pub copied : Samples → Contents
copied s = record { path = s.path.items; pressure = copied_pressure s.pressure }

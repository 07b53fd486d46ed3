-- Cells that are a sheet.
use Rattle.std.specs.Prelude.{◌≡◌, List, length, take, drop}
use Rattle.arithmetic.specs.Meaning.{Meaning}
use Rattle.spectra.specs.SpectraLaws.{TonesOf}

-- the samples a, and after them elements with the values of their defining sums
pub record Holds {A R : Type 0} (m : Meaning A R) (a cells : List A) : Type 0 where
  pub samples : take (length a) cells ≡ a
  pub sums : TonesOf m a (drop (length a) cells)

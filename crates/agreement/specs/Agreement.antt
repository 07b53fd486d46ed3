-- What the program of every maker is held to, whole: spectra, sheets and fixed tones.
use Rattle.std.specs.Prelude.{◌≡◌, ℕ, ◌*◌, true, List, length, take}
use Rattle.arithmetic.specs.Laws.{Divides}
use Rattle.arithmetic.specs.Meaning.{Meaning}
use Rattle.spectra.specs.SpectraLaws.{AllPlansAgree, InverseRestores, ProductIsConvolution, ConvolutionBySpectra}
use Rattle.plan.specs.Radices.{size}
use Rattle.cells.specs.Holding.{Holds}
use Rattle.cells.specs.Opening.{filled}
use Rattle.cells.specs.Plain.{PlainCall, plain_finally, plain_answers}
use Rattle.cells.specs.Played.{sheet_finally, sheet_answers}
use Rattle.cells.specs.SheetLaws.{CallFollows}
use Rattle.distance.specs.Distance.{TonesAreNearSums}

-- whatever the plan, the tones are the defining sums; the inverse restores the samples under any plan; and the
-- product of two spectra is the spectrum of the cyclic convolution, which the inverse gives back
pub record Spectra {A R : Type 0} (m : Meaning A R) : Type 0 where
  pub agree : AllPlansAgree m
  pub restore : InverseRestores m
  pub multiply : ProductIsConvolution m
  pub convolve : ConvolutionBySpectra m

-- a sheet is opened over cells and given nothing but the calls of a list, whatever list: every answer is that of the
-- plain sheet of the same samples, and in the end the cells hold the plain sheet's samples and their defining sums
abbrev pub OpenedFollows : {A R : Type 0} → Meaning A R → Type 0
OpenedFollows {A} m =
    (rs : List ℕ) (cells : List A) → Divides (size rs) m.span → length cells ≡ 2 * size rs → (cs : List (PlainCall A)) →
    (sheet_answers m (size rs) cs (filled m rs cells) ≡ plain_answers m cs (take (size rs) cells))
    × Holds m (plain_finally m cs (take (size rs) cells)) (sheet_finally m (size rs) cs (filled m rs cells))

-- that, which with the empty list speaks of opening and with the front of a list of what is between two calls; and the
-- same of one call on any cells that hold a plain sheet's samples and their sums
pub record Sheets {A R : Type 0} (m : Meaning A R) : Type 0 where
  pub run : OpenedFollows m
  pub call : CallFollows m

-- the first two of every full arithmetic, and the third of the fixed one
pub record Agreement {A R : Type 0} (m : Meaning A R) : Type 0 where
  pub spectra : m.full ≡ true → Spectra m
  pub sheets : m.full ≡ true → Sheets m
  pub fixed : TonesAreNearSums

-- The spectrum of the stroke in a file: under the standard plan of its length, in the fixed arithmetic.
use Rattle.std.specs.Prelude.{ℕ, min, List, ◌++◌, length, drop, replicate, ℤ, Ok, Err, Result}
use Rattle.std.specs.Result.{result_and}
use Rattle.fixed.specs.declared.Fixed.{Fixed}
use Rattle.fixed.specs.Pairs.{fixed, origin, entered}
use Rattle.plan.specs.declared.fault.PlanFault.{PlanFault}
use Rattle.plan.specs.Radices.{size, turns}
use Rattle.plan.specs.Standard.{standard}
use Rattle.quarter.specs.Entries.{circle}
use Rattle.refusal.specs.declared.Fault.{Fault}
use Rattle.refusal.specs.declared.Fault.TheVariants.{File, Plan}
use Rattle.spectrum.specs.Granted.{divided, lent}
use Rattle.spectra.specs.Tones.{tones}
use Rattle.stroke.specs.declared.fault.FileFault.{FileFault}
use Rattle.stroke.specs.Contents.{Contents}
use Rattle.stroke.specs.Reading.{decode}
use Rattle.pad.specs.declared.files.Summary.{Summary}

pub record Spectrum : Type 0 where
  pub turns : ℕ
  pub tones : List Fixed

-- of a path under the radices of its plan, where the buffer for tones and the work are long enough
abbrev pub path_spectrum : ℕ → ℕ → List (ℤ × ℤ) → Result (List ℕ) PlanFault → Result Spectrum Fault
path_spectrum room work path (Err f) = Err (Plan f)
path_spectrum room work path (Ok rs) =
    result_and (divided circle (size rs)) (result_and (lent (size rs) (min room (size rs)) work)
    (Ok (record { turns = turns rs; tones = tones fixed rs (entered path) })))

abbrev pub stroke_spectrum : ℕ → ℕ → Result Contents FileFault → Result Spectrum Fault
stroke_spectrum room work (Err f) = Err (File f)
stroke_spectrum room work (Ok c) = path_spectrum room work c.path (standard (length c.path))

-- of the stroke in the bytes of a file: refused by the file, then by its length, then by what was lent
unfoldable pub file_spectrum : ℕ → ℕ → List ℕ → Result Spectrum Fault
file_spectrum room work bs = stroke_spectrum room work (decode bs)

-- how many tones there are and how many turns made them
abbrev pub summary : Spectrum → Summary
summary s = record { count = length s.tones; turns = s.turns }

-- the tones at the front of a buffer, which behind them is as it was
abbrev pub in_front : Result Spectrum Fault → List Fixed → List Fixed
in_front (Ok s) buf = s.tones ++ drop (length s.tones) buf
in_front (Err f) buf = buf

-- the work buffer holds zeros after a granted call
abbrev pub cleared : Result Spectrum Fault → List Fixed → List Fixed
cleared (Ok s) work = replicate (length work) origin
cleared (Err f) work = work

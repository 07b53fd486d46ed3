-- Strokes that C lends: a list of samples and a list of pressures, which is empty where there are none.
use Rattle.std.specs.Prelude.{◌≡◌, ℕ, cond, List, map, length, ℤ, Some, None, Option, Result, ◌==◌}
use Rattle.std.specs.Result.{result_map_both}
use Rattle.stroke.specs.Contents.{Contents}
use Rattle.writing.specs.Written.{written, after_writing}
use Rattle.refusal.specs.declared.Fault.{Fault}
use Rattle.refusal.specs.declared.Fault.TheVariants.{Lent}
use Rattle.handover.specs.declared.reading.Counts.{Counts}
use Rattle.handover.specs.declared.lending.Held.{Held}
use Rattle.crossing.specs.declared.status.Status.{Status}
use Rattle.crossing.specs.Answers.{status_of, answer_or}

-- the samples as pairs
abbrev pub pairs : List Counts → List (ℤ × ℤ)
pairs path = map (λ c. (c.x, c.y)) path

abbrev pub pressure_held : List ℕ → Option (List ℕ)
pressure_held pressure = cond (length pressure == 0) None (Some pressure)

abbrev pub stroke_held : List (ℤ × ℤ) → List ℕ → Contents
stroke_held path pressure = record { path = path; pressure = pressure_held pressure }

abbrev pub lent_stroke : List Counts → List ℕ → Contents
lent_stroke path pressure = stroke_held (pairs path) pressure

-- what a stroke holds whose samples were copied
abbrev pub kept : Held → Contents
kept h = stroke_held h.path.items h.pressure.now

-- the length of the file, or why it is not written
abbrev pub writing : Contents → ℕ → Result ℕ Fault
writing c room = result_map_both (λ len. len) Lent (written c room)

pub record Writes (path : List Counts) (pressure : List ℕ) (len : ℕ) (out : List ℕ) (status : Status) (len' : ℕ) (out' : List ℕ) : Type 0 where
  pub status_is : status ≡ status_of (writing (lent_stroke path pressure) (length out))
  pub length_is : len' ≡ answer_or len (writing (lent_stroke path pressure) (length out))
  pub out_is : out' ≡ after_writing (lent_stroke path pressure) out

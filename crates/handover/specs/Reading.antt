-- Reading a stroke file for C: what is copied into the lent lists, or why the file or the lists are refused.
use Rattle.std.specs.Prelude.{◌≡◌, ℕ, cond, ◌&&◌, List, map, length, ℤ, Ok, Err, Result, nat_le}
use Rattle.std.specs.Result.{result_map_both}
use Rattle.stroke.specs.declared.fault.FileFault.{FileFault}
use Rattle.stroke.specs.Contents.{Contents, pressures}
use Rattle.stroke.specs.Reading.{decode}
use Rattle.refusal.specs.declared.Fault.{Fault}
use Rattle.refusal.specs.declared.Fault.TheVariants.{File, Length}
use Rattle.handover.specs.declared.reading.Counts.{Counts}
use Rattle.handover.specs.declared.reading.Heading.{Heading}
use Rattle.crossing.specs.declared.status.Status.{Status}
use Rattle.crossing.specs.Answers.{status_of, answer_or, in_front}

-- a path sample
abbrev pub counts : ℤ × ℤ → Counts
counts p = record { x = p.0; y = p.1 }

-- the path samples of a stroke
abbrev pub path_counts : Contents → List Counts
path_counts c = map counts c.path

-- how many samples and how many pressures it has
abbrev pub heading : Contents → Heading
heading c = record { samples = length c.path; pressures = length (pressures c) }

-- the stroke that is read, where there is room for so many samples and so many pressures
abbrev pub with_room : ℕ → ℕ → Result Contents FileFault → Result Contents Fault
with_room path pressure (Err f) = Err (File f)
with_room path pressure (Ok c) =
    cond (nat_le (length c.path) path && nat_le (length (pressures c)) pressure) (Ok c) (Err Length)

-- of the bytes of a file: refused by the file, then by what was lent
unfoldable pub read_in : ℕ → ℕ → List ℕ → Result Contents Fault
read_in path pressure bs = with_room path pressure (decode bs)

-- the status, and then the heading and the two lists
pub record Reads (bs : List ℕ) (h : Heading) (path : List Counts) (pressure : List ℕ) (status : Status) (h' : Heading) (path' : List Counts) (pressure' : List ℕ) : Type 0 where
  pub status_is : status ≡ status_of (read_in (length path) (length pressure) bs)
  pub heading_is : h' ≡ answer_or h (result_map_both heading (λ f. f) (read_in (length path) (length pressure) bs))
  pub path_is : path' ≡ in_front (result_map_both path_counts (λ f. f) (read_in (length path) (length pressure) bs)) path
  pub pressure_is : pressure' ≡ in_front (result_map_both pressures (λ f. f) (read_in (length path) (length pressure) bs)) pressure

-- Sheets for C, which holds one as its cells and its length: the status, and then what is written out and what the cells hold.
use Rattle.std.specs.Prelude.{◌≡◌, ℕ, List, length}
use Rattle.std.specs.Result.{result_map_both}
use Rattle.arithmetic.specs.Meaning.{Meaning}
use Rattle.path.specs.declared.Path.{Path}
use Rattle.cells.specs.Plain.{PlainCall}
use Rattle.cells.specs.Cells.{granted, cells_after, heard}
use Rattle.cells.specs.Opening.{opened, filled}
use Rattle.crossing.specs.declared.status.Status.{Status}
use Rattle.spectrum.specs.Granted.{where_granted, cleared}
use Rattle.crossing.specs.Answers.{status_of, answer_or}

pub record Opens {A R : Type 0} (m : Meaning A R) (rs : List ℕ) (n : ℕ) (cells work : List A) (status : Status) (n' : ℕ) (cells' work' : List A) : Type 0 where
  pub status_is : status ≡ status_of (opened m rs (length cells) (length work))
  pub length_is : n' ≡ answer_or n (opened m rs (length cells) (length work))
  pub cells_are : cells' ≡ where_granted (opened m rs (length cells) (length work)) (filled m rs cells) cells
  pub work_is : work' ≡ cleared m (opened m rs (length cells) (length work)) work

-- a call on the cells of n samples
pub record Calls {A R : Type 0} (m : Meaning A R) (n : ℕ) (c : PlainCall A) (cells : List A) (status : Status) (cells' : List A) : Type 0 where
  pub status_is : status ≡ status_of (granted m n c cells)
  pub cells_are : cells' ≡ cells_after (granted m n c cells) m n c cells

-- the two parts of a path tone as an element
abbrev pub both : ℕ × ℕ → Path
both p = record { u = p.0; v = p.1 }

-- tone k, whose reading is written out in the form that C has of it
pub record Sounds {A R B : Type 0} (m : Meaning A R) (form : R → B) (n k : ℕ) (cells : List A) (tone : B) (status : Status) (tone' : B) (cells' : List A) : Type 0 where
  pub status_is : status ≡ status_of (heard m n k cells)
  pub tone_is : tone' ≡ answer_or tone (result_map_both form (λ f. f) (heard m n k cells))
  pub cells_stay : cells' ≡ cells

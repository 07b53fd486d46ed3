-- A sheet by the cells that are lent to it, and its length.
use Rattle.std.specs.Prelude.{◌≡◌, ℕ, List, Result}
use Rattle.arithmetic.specs.Meaning.{Meaning}
use Rattle.refusal.specs.declared.Fault.{Fault}
use Rattle.cells.specs.Plain.{PlainCall}
use Rattle.cells.specs.Cells.{granted, cells_after, heard}
use Rattle.cells.specs.declared.sheets.Sheet.{Sheet}

abbrev pub cells_of : {X : Type 0} → Sheet X → List X
cells_of s = s.cells.now

abbrev pub length_of : {X : Type 0} → Sheet X → ℕ
length_of s = s.n

-- t lies in the cells that s lies in, and is as long
pub record Kept {X : Type 0} (s t : Sheet X) : Type 0 where
  pub same : t.cells.ghost_name ≡ s.cells.ghost_name
  pub long : length_of t ≡ length_of s

-- what a call on a sheet answers
abbrev pub asked : {A R : Type 0} → Meaning A R → PlainCall A → Sheet A → Result (Unit {0}) Fault
asked m c s = granted m (length_of s) c (cells_of s)

-- the cells that it leaves, where it answers r
abbrev pub cells_left : {A R : Type 0} → Result (Unit {0}) Fault → Meaning A R → PlainCall A → Sheet A → List A
cells_left r m c s = cells_after r m (length_of s) c (cells_of s)

-- what a tone of a sheet answers
abbrev pub sounded : {A R : Type 0} → Meaning A R → ℕ → Sheet A → Result R Fault
sounded m k s = heard m (length_of s) k (cells_of s)

-- A sheet's own answers and cells, call by call.
use Rattle.std.specs.Prelude.{ℕ, ◌+◌, List, [], ◌∷◌, Option, Some, None, Ok, Result, slice_index_or}
use Rattle.std.specs.Result.{result_and}
use Rattle.arithmetic.specs.Meaning.{Meaning}
use Rattle.refusal.specs.declared.Fault.{Fault}
use Rattle.cells.specs.Plain.{PlainCall, edit, shift, mirror, lay, tone}
use Rattle.cells.specs.Cells.{granted, cells_after}

-- what a granted call tells: a tone the cell that it stands in, as the arithmetic reads it
abbrev pub sheet_told : {A R : Type 0} → Meaning A R → ℕ → PlainCall A → List A → Option R
sheet_told m n (edit i v) cells = None
sheet_told m n (shift h) cells = None
sheet_told m n mirror cells = None
sheet_told m n (lay b) cells = None
sheet_told m n (tone k) cells = Some (m.reading (slice_index_or cells (n + k) m.zero))

-- what a call answers
abbrev pub sheet_answer : {A R : Type 0} → Meaning A R → ℕ → PlainCall A → List A → Result (Option R) Fault
sheet_answer m n c cells = result_and (granted m n c cells) (Ok (sheet_told m n c cells))

-- the cells after a call
abbrev pub sheet_after : {A R : Type 0} → Meaning A R → ℕ → PlainCall A → List A → List A
sheet_after m n c cells = cells_after (granted m n c cells) m n c cells

-- the cells after every call of a list
abbrev pub sheet_finally : {A R : Type 0} → Meaning A R → ℕ → List (PlainCall A) → List A → List A
sheet_finally m n [] cells = cells
sheet_finally m n (c ∷ cs) cells = sheet_finally m n cs (sheet_after m n c cells)

-- what the calls of a list answer, in turn
abbrev pub sheet_answers : {A R : Type 0} → Meaning A R → ℕ → List (PlainCall A) → List A → List (Result (Option R) Fault)
sheet_answers m n [] cells = []
sheet_answers m n (c ∷ cs) cells = sheet_answer m n c cells ∷ sheet_answers m n cs (sheet_after m n c cells)

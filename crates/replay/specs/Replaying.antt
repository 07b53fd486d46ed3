-- A list of calls played on a sheet that is opened for it.
use Rattle.std.specs.Prelude.{ℕ, List, Option, map, take, Result}
use Rattle.std.specs.Result.{result_and}
use Rattle.arithmetic.specs.Meaning.{Meaning}
use Rattle.plan.specs.Radices.{size}
use Rattle.refusal.specs.declared.Fault.{Fault}
use Rattle.spectrum.specs.Granted.{whole}
use Rattle.replay.specs.declared.calls.Call.{Call}
use Rattle.replay.specs.declared.calls.Call.TheVariants.{Edit, Shift, Mirror, Lay, Tone}
use Rattle.cells.specs.Plain.{PlainCall, edit, shift, mirror, lay, tone, plain_finally, plain_answers}
use Rattle.cells.specs.Opening.{sized, roomy, filled}
use Rattle.cells.specs.Played.{sheet_finally}

-- a call by its arguments
abbrev pub plainly : {A : Type 0} → Call A → PlainCall A
plainly (Edit i v) = edit i v
plainly (Shift h) = shift h
plainly Mirror = mirror
plainly (Lay b) = lay b.now
plainly (Tone k) = tone k

-- the sheet opens, and there is room for an answer to each call
abbrev pub replayed : {A R : Type 0} → Meaning A R → List ℕ → ℕ → ℕ → ℕ → ℕ → Result (Unit {0}) Fault
replayed m rs len work calls answers =
    result_and (sized m rs len) (result_and (whole calls answers) (roomy (size rs) work))

-- what the plain sheet answers to the calls, where it begins with the samples among the cells
abbrev pub answers_to : {A R : Type 0} → Meaning A R → List ℕ → List (Call A) → List A → List (Result (Option R) Fault)
answers_to m rs calls cells = plain_answers m (map plainly calls) (take (size rs) cells)

-- the samples that it then has
abbrev pub samples_left : {A R : Type 0} → Meaning A R → List ℕ → List (Call A) → List A → List A
samples_left m rs calls cells = plain_finally m (map plainly calls) (take (size rs) cells)

-- the cells of the sheet itself, opened and played to the end
abbrev pub cells_played : {A R : Type 0} → Meaning A R → List ℕ → List (Call A) → List A → List A
cells_played m rs calls cells = sheet_finally m (size rs) (map plainly calls) (filled m rs cells)

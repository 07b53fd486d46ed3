-- Which sheets open, and what their cells then are.
use Rattle.std.specs.Prelude.{ℕ, ◌+◌, cond, List, ◌++◌, take, Ok, Err, Result, nat_le}
use Rattle.std.specs.Result.{result_and}
use Rattle.arithmetic.specs.Meaning.{Meaning}
use Rattle.plan.specs.Radices.{size}
use Rattle.refusal.specs.declared.Fault.{Fault}
use Rattle.refusal.specs.declared.Fault.TheVariants.{Work}
use Rattle.spectrum.specs.Granted.{plans, scratch}
use Rattle.spectra.specs.Tones.{tones}
use Rattle.cells.specs.Cells.{sheet_for}

-- the length that the radices are for, where a sheet of it fits into len cells
abbrev pub sized : {A R : Type 0} → Meaning A R → List ℕ → ℕ → Result ℕ Fault
sized m rs len = result_and (plans rs) (result_and (sheet_for m (size rs) len) (Ok (size rs)))

-- the work is long enough for a transform of n samples
abbrev pub roomy : ℕ → ℕ → Result (Unit {0}) Fault
roomy n work = cond (nat_le (n + scratch) work) (Ok tt) (Err Work)

-- a sheet that opens answers its length
abbrev pub opened : {A R : Type 0} → Meaning A R → List ℕ → ℕ → ℕ → Result ℕ Fault
opened m rs len work = result_and (sized m rs len) (result_and (roomy (size rs) work) (Ok (size rs)))

-- the samples stay, and their tones come after them
abbrev pub filled : {A R : Type 0} → Meaning A R → List ℕ → List A → List A
filled m rs cells = take (size rs) cells ++ tones m rs (take (size rs) cells)

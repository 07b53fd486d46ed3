-- The number, the layer and the place of every refusal.
use Rattle.std.specs.Prelude.{ℕ}
use Rattle.stroke.specs.Faults.{number_of as file_number, place_of as file_place}
use Rattle.writing.specs.Lending.{lent_number, lent_place}
use Rattle.plan.specs.Faults.{fault_number, fault_place}
use Rattle.refusal.specs.declared.Fault.{Fault}
use Rattle.refusal.specs.declared.Fault.TheVariants.{File, Plan, Lent, Span, Unfit, Length, Work, Place, NoStage, StagesLeft}
use Rattle.refusal.specs.declared.Layer.{Layer}
use Rattle.refusal.specs.declared.Layer.TheVariants.{File as OfFile, Length as OfLength, Memory as OfMemory}

-- what a file, a plan or a lent stroke was refused by keeps its number
abbrev pub number_of : Fault → ℕ
number_of (File f) = file_number f
number_of (Plan f) = fault_number f
number_of (Lent f) = lent_number f
number_of (Span n) = 24
number_of Unfit = 26
number_of Length = 31
number_of Work = 32
number_of (Place k) = 41
number_of NoStage = 51
number_of StagesLeft = 52

-- whoever wrote the file, chose the length, or lent the memory to this arithmetic and calls on it
abbrev pub layer_of : Fault → Layer
layer_of (File f) = OfFile
layer_of (Plan f) = OfLength
layer_of (Lent f) = OfMemory
layer_of (Span n) = OfMemory
layer_of Unfit = OfMemory
layer_of Length = OfMemory
layer_of Work = OfMemory
layer_of (Place k) = OfMemory
layer_of NoStage = OfMemory
layer_of StagesLeft = OfMemory

-- what a file, a plan or a lent stroke was refused at keeps its place; else the length or the number that was asked for, or 0
abbrev pub place_of : Fault → ℕ
place_of (File f) = file_place f
place_of (Plan f) = fault_place f
place_of (Lent f) = lent_place f
place_of (Span n) = n
place_of Unfit = 0
place_of Length = 0
place_of Work = 0
place_of (Place k) = k
place_of NoStage = 0
place_of StagesLeft = 0

abbrev pub layer_number : Layer → ℕ
layer_number OfFile = 1
layer_number OfLength = 2
layer_number OfMemory = 3

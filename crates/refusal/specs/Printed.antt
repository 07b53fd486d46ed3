-- What is printed of a refusal, byte for byte.
use Rattle.std.specs.Prelude.{ℕ, List, ◌++◌, codes, decimal}
use Rattle.refusal.specs.declared.Fault.{Fault}
use Rattle.refusal.specs.Faults.{number_of, layer_of, layer_number, place_of}

-- its number, layer and place
abbrev pub printed_fault : Fault → List ℕ
printed_fault fault =
    decimal (number_of fault) ++ (codes " " ++ (decimal (layer_number (layer_of fault)) ++ (codes " " ++ decimal (place_of fault))))

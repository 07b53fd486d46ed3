-- The number and the place by which a refusal of a file is known.
use Rattle.std.specs.Prelude.{ℕ}
use Rattle.stroke.specs.declared.fault.FileFault.{FileFault}
use Rattle.stroke.specs.declared.fault.FileFault.TheVariants.{Size, Version, Flag, Count, Distance, Start, Field}

abbrev pub number_of : FileFault → ℕ
number_of Size = 11
number_of (Version at) = 12
number_of (Flag at) = 12
number_of Count = 13
number_of Distance = 14
number_of Start = 15
number_of (Field at) = 16

-- an offset in the file, or 0 where none is stated
abbrev pub place_of : FileFault → ℕ
place_of Size = 0
place_of (Version at) = at
place_of (Flag at) = at
place_of Count = 0
place_of Distance = 0
place_of Start = 0
place_of (Field at) = at

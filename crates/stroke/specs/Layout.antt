-- The layout of a stroke file: fields of two bytes, samples of two or three fields, and a trailer at the end. Assumes nothing.
use Rattle.std.specs.Prelude.{ℕ, ◌+◌, ◌*◌, ◌/◌, ◌%◌, Bool, cond, List, [], ◌∷◌, ℤ, slice_index}
use Rattle.std.proofs.Common.{to_z, of_z}
use Rattle.std.specs.Int.{w16}
use Rattle.stroke.specs.declared.fields.Field.{Field}
use Rattle.stroke.specs.declared.fields.Field.TheVariants.{X, Y, Pressure}

-- the most bytes of a file
abbrev pub most_bytes : ℕ
most_bytes = 65536

-- the one version that there is
abbrev pub version : ℕ
version = 1

-- how many bytes the trailer has
abbrev pub trailer_size : ℕ
trailer_size = 8

-- how many bytes a field has
abbrev pub field_size : ℕ
field_size = 2

-- how many bytes a sample has: x and y, and a pressure if there is any
abbrev pub sample_size : Bool → ℕ
sample_size pressed = cond pressed (3 * field_size) (2 * field_size)

-- where a field begins in its sample: first x, then y, then the pressure
abbrev pub field_offset : Field → ℕ
field_offset X = 0
field_offset Y = field_size
field_offset Pressure = 2 * field_size

-- where field f of sample i stands, counted from the first sample
abbrev pub field_at : Bool → ℕ → Field → ℕ
field_at pressed i f = i * sample_size pressed + field_offset f

-- a number in two bytes, the low byte first
abbrev pub two_bytes : ℕ → List ℕ
two_bytes n = n % 256 ∷ n / 256 % 256 ∷ []

-- and the number in the two bytes from `at` on
abbrev pub word : List ℕ → ℕ → ℕ
word bs at = slice_index bs at + slice_index bs (at + 1) * 256

-- the same of a signed number, in two's complement
abbrev pub signed_bytes : ℤ → List ℕ
signed_bytes z = two_bytes (of_z w16 z)

abbrev pub signed_word : List ℕ → ℕ → ℤ
signed_word bs at = to_z w16 (word bs at)

-- a number in four bytes, the low byte first
abbrev pub four_bytes : ℕ → List ℕ
four_bytes n = n % 256 ∷ n / 256 % 256 ∷ n / 65536 % 256 ∷ n / 16777216 % 256 ∷ []

-- Reading: what a file of bytes holds, or why it is refused.
use Rattle.std.specs.Prelude.{◌≡◌, ℕ, ◌+◌, ◌-◌, ◌*◌, ◌/◌, ◌<◌, ◌≤◌, Bool, cond, not, ◌||◌, List, map, length, Some, None, Ok, Err, Option, Result, ◌==◌, nat_lt, slice_index}
use Rattle.std.specs.List.{between, range_with_len}
use Rattle.stroke.specs.declared.fault.FileFault.{FileFault}
use Rattle.stroke.specs.declared.fault.FileFault.TheVariants.{Size, Version, Flag, Count, Distance, Start, Field as OfField}
use Rattle.stroke.specs.declared.fields.Field.{Field}
use Rattle.stroke.specs.declared.fields.Field.TheVariants.{X, Y, Pressure}
use Rattle.stroke.specs.declared.view.Stroke.{Stroke}
use Rattle.stroke.specs.Contents.{Contents, most_samples, first_beyond}
use Rattle.stroke.specs.Layout.{most_bytes, version, trailer_size, sample_size, field_at, word, signed_word}

-- how many whole samples lie in bs
abbrev pub samples_of : Bool → List ℕ → ℕ
samples_of pressed bs = length bs / sample_size pressed

-- the stroke whose samples' bytes are bs
abbrev pub stroke_of : Bool → List ℕ → Contents
stroke_of pressed bs = record {
  path = map (λ i. (signed_word bs (field_at pressed i X), signed_word bs (field_at pressed i Y))) (range_with_len 0 (samples_of pressed bs));
  pressure = cond pressed (Some (map (λ i. word bs (field_at pressed i Pressure)) (range_with_len 0 (samples_of pressed bs)))) None;
}

-- what a stroke that borrows its bytes holds
abbrev pub contents : Stroke → Contents
contents s = stroke_of s.pressed s.samples.now

-- sample i is there, its bytes begin at `at`, and all of them are there
pub record Begins (s : Stroke) (i at : ℕ) : Type 0 where
  pub there : i < length (contents s).path
  pub is : at ≡ i * sample_size s.pressed
  pub whole : at + sample_size s.pressed ≤ length s.samples.now

-- the byte that stands k before the end
abbrev pub from_end : List ℕ → ℕ → ℕ
from_end bs k = slice_index bs (length bs - k)

-- D, N, the flag and the version, as the trailer has them
abbrev pub distance_in : List ℕ → ℕ
distance_in bs = from_end bs 8 + from_end bs 7 * 256 + from_end bs 6 * 65536 + from_end bs 5 * 16777216

abbrev pub count_in : List ℕ → ℕ
count_in bs = from_end bs 4 + from_end bs 3 * 256

abbrev pub flag_in : List ℕ → ℕ
flag_in bs = from_end bs 2

abbrev pub version_in : List ℕ → ℕ
version_in bs = from_end bs 1

-- whether the flag says that there are pressures
abbrev pub pressed_in : List ℕ → Bool
pressed_in bs = flag_in bs == 1

-- where the trailer stands, and where the first sample does
abbrev pub trailer_in : List ℕ → ℕ
trailer_in bs = length bs - trailer_size

abbrev pub start_in : List ℕ → ℕ
start_in bs = trailer_in bs - distance_in bs

-- the samples' bytes, which lie between the two
abbrev pub samples_in : List ℕ → List ℕ
samples_in bs = between (start_in bs) (trailer_in bs) bs

abbrev pub stroke_in : List ℕ → Contents
stroke_in bs = stroke_of (pressed_in bs) (samples_in bs)

-- that stroke, or the field of it that is beyond its limits
abbrev pub unless_beyond : List ℕ → Option (ℕ × Field) → Result Contents FileFault
unless_beyond bs None = Ok (stroke_in bs)
unless_beyond bs (Some (i, f)) = Err (OfField (start_in bs + field_at (pressed_in bs) i f))

-- the first condition that holds decides
abbrev pub decode : List ℕ → Result Contents FileFault
decode bs =
    cond (nat_lt (length bs) trailer_size || nat_lt most_bytes (length bs)) (Err Size)
    (cond (not (version_in bs == version)) (Err (Version (length bs - 1)))
    (cond (nat_lt 1 (flag_in bs)) (Err (Flag (length bs - 2)))
    (cond (count_in bs == 0 || nat_lt most_samples (count_in bs)) (Err Count)
    (cond (not (distance_in bs == count_in bs * sample_size (pressed_in bs))) (Err Distance)
    (cond (nat_lt (trailer_in bs) (distance_in bs)) (Err Start)
    (unless_beyond bs (first_beyond (stroke_in bs))))))))

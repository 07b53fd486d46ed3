-- The samples that lie in a list of bytes, one by one.
use Rattle.std.proofs.Common.{◌≡◌, ℕ, ◌+◌, ◌*◌, ◌/◌, ◌<◌, ◌≤◌, Bool, true, false, List, length, is_some, IfSome, Some, refl, arith}
use Rattle.std.specs.List.{slice_get}
use Rattle.std.proofs.lemmas.List.FromFn.{length-map-range_with_len}
use Rattle.stroke.specs.declared.fields.Field.TheVariants.{Pressure}
use Rattle.stroke.specs.Contents.{pressures}
use Rattle.stroke.specs.Layout.{sample_size, field_at, word}
use Rattle.stroke.specs.Reading.{samples_of, stroke_of}
use Rattle.stroke.proofs.Indexed.{nth_map_counting}

pub some_bytes : (pressed : Bool) → 0 < sample_size pressed
some_bytes true = omega arith
some_bytes false = omega arith

pub length_path : (pressed : Bool) (bs : List ℕ) → length (stroke_of pressed bs).path ≡ samples_of pressed bs
length_path pressed bs = simp length-map-range_with_len

-- a whole sample has all its bytes
pub sample_inside : (pressed : Bool) (len i : ℕ) → i < len / sample_size pressed → i * sample_size pressed + sample_size pressed ≤ len
sample_inside true len i h = omega arith
sample_inside false len i h = omega arith

pub whole_samples : (pressed : Bool) (n len : ℕ) → len ≡ n * sample_size pressed → len / sample_size pressed ≡ n
whole_samples true n len e = omega arith
whole_samples false n len e = omega arith

-- as many pressures as samples, where there is any
pub pressure_there : (pressed : Bool) (bs : List ℕ) (i : ℕ) → pressed ≡ true → i < length (stroke_of pressed bs).path
    → slice_get (pressures (stroke_of pressed bs)) i ≡ Some (word bs (field_at pressed i Pressure))
pressure_there true bs i e h = nth_map_counting (λ i. word bs (field_at true i Pressure)) (samples_of true bs) i (simp length-map-range_with_len at h)
pressure_there false bs i e h = let z : ◌≡◌ {A = ℕ} 0 1 = cc in absurd (omega arith)

pub pressures_count : (pressed : Bool) (bs : List ℕ) → IfSome (stroke_of pressed bs).pressure (λ us. length us ≡ length (stroke_of pressed bs).path)
pressures_count true bs = simp length-map-range_with_len
pressures_count false bs = tt

pub pressed_is : (pressed : Bool) (bs : List ℕ) → is_some (stroke_of pressed bs).pressure ≡ pressed
pressed_is true bs = refl
pressed_is false bs = refl

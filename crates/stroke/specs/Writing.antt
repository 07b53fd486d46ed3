-- Writing: the bytes of a stroke, and the files that hold it.
use Rattle.std.specs.Prelude.{◌≡◌, ℕ, ◌≤◌, Bool, cond, List, [], ◌∷◌, ◌++◌, length, is_some, Some, None, Option, slice_index}
use Rattle.std.specs.List.{range_with_len, flat_map}
use Rattle.stroke.specs.Contents.{Contents, Sound, path_at}
use Rattle.stroke.specs.Layout.{most_bytes, version, two_bytes, signed_bytes, four_bytes}

-- the pressure of sample i, if there is any
abbrev pub pressure_bytes : Option (List ℕ) → ℕ → List ℕ
pressure_bytes None i = []
pressure_bytes (Some us) i = two_bytes (slice_index us i)

-- sample i: x, y, and the pressure
abbrev pub sample_bytes : Contents → ℕ → List ℕ
sample_bytes c i = signed_bytes (path_at c i).0 ++ (signed_bytes (path_at c i).1 ++ pressure_bytes c.pressure i)

-- the samples, one after the other
abbrev pub samples_bytes : Contents → List ℕ
samples_bytes c = flat_map (sample_bytes c) (range_with_len 0 (length c.path))

-- the trailer by D, N and whether there are pressures: D, N, the flag and the version
abbrev pub trailer : ℕ → ℕ → Bool → List ℕ
trailer d n pressed = four_bytes d ++ (two_bytes n ++ (cond pressed 1 0 ∷ version ∷ []))

-- that of a stroke, whose D is how far back its first sample lies
abbrev pub trailer_bytes : Contents → List ℕ
trailer_bytes c = trailer (length (samples_bytes c)) (length c.path) (is_some c.pressure)

-- the file of a stroke, without notes
abbrev pub encode : Contents → List ℕ
encode c = samples_bytes c ++ trailer_bytes c

-- bs is a file of the stroke c: any notes, then its bytes
pub record FileOf (c : Contents) (bs : List ℕ) : Type 0 where
  pub sound : Sound c
  pub fits : length bs ≤ most_bytes
  pub notes : List ℕ
  pub is : bs ≡ notes ++ encode c

-- The bytes that are granted are a file of the stroke that is read.
use Rattle.std.proofs.Common.{◌≡◌, ℕ, zero, suc, ◌+◌, ◌-◌, ◌*◌, ◌<◌, ◌≤◌, Bool, true, false, cond, eqb, List, [], ◌∷◌, ◌++◌, map, length, get_or, take, drop, pos, Some, None, Ok, Option, sym, refl, ap, ◌∙◌, subst, add_assoc, arith}
use Rattle.std.specs.List.{between, range_with_len, AllByRecursion}
use Rattle.std.proofs.lemmas.List.FromFn.{get_or-map-range_with_len}
use Rattle.std.proofs.lemmas.List.Edits.{length-between}
use Rattle.std.proofs.ByRecursion.{All-take, All-drop}
use Rattle.std.proofs.lemmas.List.{drop_all, drop_more, drop-drop, take-append-drop}
use Rattle.std.proofs.lemmas.Bool.Decides.{nat_tests}
use Rattle.stroke.specs.declared.fields.Field.{Field}
use Rattle.stroke.specs.declared.fields.Field.TheVariants.{X, Y, Pressure}
use Rattle.stroke.specs.Contents.{Contents, Sound, path_at, first_beyond}
use Rattle.stroke.specs.Layout.{version, trailer_size, sample_size, field_at, word, signed_word, two_bytes, signed_bytes}
use Rattle.stroke.specs.Reading.{samples_of, stroke_of, from_end, distance_in, count_in, flag_in, pressed_in, trailer_in, start_in, samples_in, stroke_in, unless_beyond}
use Rattle.stroke.specs.Writing.{pressure_bytes, sample_bytes, samples_bytes, trailer, encode, FileOf}
use Rattle.stroke.specs.Format.{Granted}
use Rattle.stroke.proofs.Indexed.{all_at}
use Rattle.stroke.proofs.Samples.{some_bytes, whole_samples, length_path, pressures_count, pressed_is}
use Rattle.stroke.proofs.Soundness.{sound_from}
use Rattle.stroke.proofs.Trailer.{InOrder, decode_in_order, rank, in_order}
use Rattle.stroke.proofs.Encoded.{length_sample}
use Rattle.stroke.proofs.Rows.{rows_are}
use Rattle.stroke.proofs.Words.{two_bytes_are, four_bytes_are, signed_bytes_are}

byte_at : (bs : List ℕ) → AllByRecursion (λ b. b < 256) bs → (k : ℕ) → get_or bs k 0 < 256
byte_at bs h = all_at (λ b. b < 256) bs 0 (omega arith) h

-- the k bytes at the end
abbrev last : ℕ → List ℕ → List ℕ
last zero bs = []
last (suc k) bs = from_end bs (suc k) ∷ last k bs

drop_is_last : (k : ℕ) (bs : List ℕ) → k ≤ length bs → drop (length bs - k) bs ≡ last k bs
drop_is_last zero bs h = drop_all (length bs - zero) bs (omega arith)
drop_is_last (suc k) bs h =
    let next : length bs - suc k + 1 ≡ length bs - k = omega arith in
    drop_more bs (length bs - suc k) 0 (omega arith) ∙ ap (λ ys. from_end bs (suc k) ∷ ys) (rw next (drop_is_last k bs (omega arith)))

append_same : (ws xs ys zs : List ℕ) → ws ≡ xs → ys ≡ zs → ws ++ ys ≡ xs ++ zs
append_same ws xs ys zs p q = cc

-- the bytes of sample i, as they lie in bs
module _ (bs : List ℕ) (bytes : (k : ℕ) → get_or bs k 0 < 256) where
  next : (at o : ℕ) → get_or bs (at + o) 0 ∷ get_or bs (at + o + 1) 0 ∷ [] ≡ get_or bs (at + o) 0 ∷ get_or bs (at + (o + 1)) 0 ∷ []
  next at o = ap (λ k. get_or bs (at + o) 0 ∷ get_or bs k 0 ∷ []) (add_assoc at o 1)

  two_at : (at o : ℕ) → two_bytes (word bs (at + o)) ≡ get_or bs (at + o) 0 ∷ get_or bs (at + (o + 1)) 0 ∷ []
  two_at at o =
      two_bytes_are (get_or bs (at + o) 0) (get_or bs (at + o + 1) 0) (bytes (at + o)) (bytes (at + o + 1)) ∙ next at o

  signed_at : (at o : ℕ) → signed_bytes (signed_word bs (at + o)) ≡ get_or bs (at + o) 0 ∷ get_or bs (at + (o + 1)) 0 ∷ []
  signed_at at o =
      signed_bytes_are (get_or bs (at + o) 0) (get_or bs (at + o + 1) 0) (bytes (at + o)) (bytes (at + o + 1)) ∙ next at o

  path_is : (pressed : Bool) (i : ℕ) → i < samples_of pressed bs
      → path_at (stroke_of pressed bs) i ≡ (signed_word bs (field_at pressed i X), signed_word bs (field_at pressed i Y))
  path_is pressed i h =
      get_or-map-range_with_len (λ i. (signed_word bs (field_at pressed i X), signed_word bs (field_at pressed i Y))) 0 (samples_of pressed bs) i i (pos 0, pos 0) h (omega arith)

  x_is : (pressed : Bool) (i : ℕ) → i < samples_of pressed bs
      → signed_bytes (path_at (stroke_of pressed bs) i).0 ≡ get_or bs (i * sample_size pressed + 0) 0 ∷ get_or bs (i * sample_size pressed + 1) 0 ∷ []
  x_is pressed i h = ap (λ p. signed_bytes p.0) (path_is pressed i h) ∙ signed_at (i * sample_size pressed) 0

  y_is : (pressed : Bool) (i : ℕ) → i < samples_of pressed bs
      → signed_bytes (path_at (stroke_of pressed bs) i).1 ≡ get_or bs (i * sample_size pressed + 2) 0 ∷ get_or bs (i * sample_size pressed + 3) 0 ∷ []
  y_is pressed i h = ap (λ p. signed_bytes p.1) (path_is pressed i h) ∙ signed_at (i * sample_size pressed) 2

  pressure_is : (pressed : Bool) (i : ℕ) → i < samples_of pressed bs
      → pressure_bytes (stroke_of pressed bs).pressure i ≡ cond pressed (get_or bs (i * sample_size pressed + 4) 0 ∷ get_or bs (i * sample_size pressed + 5) 0 ∷ []) []
  pressure_is true i h =
      ap two_bytes (get_or-map-range_with_len (λ i. word bs (field_at true i Pressure)) 0 (samples_of true bs) i i 0 h (omega arith)) ∙ two_at (i * 6) 4
  pressure_is false i h = refl

  all_fields : (pressed : Bool) (i : ℕ) → i < samples_of pressed bs
      → sample_bytes (stroke_of pressed bs) i ≡
      (get_or bs (i * sample_size pressed + 0) 0 ∷ get_or bs (i * sample_size pressed + 1) 0 ∷ []) ++
      ((get_or bs (i * sample_size pressed + 2) 0 ∷ get_or bs (i * sample_size pressed + 3) 0 ∷ []) ++
      cond pressed (get_or bs (i * sample_size pressed + 4) 0 ∷ get_or bs (i * sample_size pressed + 5) 0 ∷ []) [])
  all_fields pressed i h = append_same _ _ _ _ (x_is pressed i h) (append_same _ _ _ _ (y_is pressed i h) (pressure_is pressed i h))

  sample_is : (pressed : Bool) (i : ℕ) → i < samples_of pressed bs
      → sample_bytes (stroke_of pressed bs) i ≡ map (λ j. get_or bs (i * sample_size pressed + j) 0) (range_with_len 0 (sample_size pressed))
  sample_is true i h = all_fields true i h
  sample_is false i h = all_fields false i h

  samples_are : (pressed : Bool) (n : ℕ) → length bs ≡ n * sample_size pressed → samples_bytes (stroke_of pressed bs) ≡ bs
  samples_are pressed n len =
      let c = stroke_of pressed bs in
      let whole : samples_of pressed bs ≡ n = whole_samples pressed n (length bs) len in
      let count : length c.path ≡ n = length_path pressed bs ∙ whole in
      rw count
      (sym (rows_are (sample_bytes c) (sample_size pressed) (λ i. length_sample c i ∙ ap sample_size (pressed_is pressed bs)) n bs 0 (some_bytes pressed) len
      (λ i j h k.
      let sample = ap (λ xs. get_or xs j 0) (sample_is pressed i (omega arith)) in
      let place = get_or-map-range_with_len (λ j. get_or bs (i * sample_size pressed + j) 0) 0 (sample_size pressed) j j 0 k (omega arith) in
      sym (sample ∙ place))))

flag_is : (n : ℕ) → n ≤ 1 → cond (eqb n 1) 1 0 ≡ n
flag_is n h = grind (arith, nat_tests)

-- the trailer that says what bs's trailer says is the one that bs has
trailer_is : (bs : List ℕ) → ((k : ℕ) → get_or bs k 0 < 256) → InOrder bs → trailer (distance_in bs) (count_in bs) (pressed_in bs) ≡ last trailer_size bs
trailer_is bs bytes order =
    let byte = λ (k : ℕ). bytes (length bs - k) in
    let distance = four_bytes_are (from_end bs 8) (from_end bs 7) (from_end bs 6) (from_end bs 5) (byte 8) (byte 7) (byte 6) (byte 5) in
    let count = two_bytes_are (from_end bs 4) (from_end bs 3) (byte 4) (byte 3) in
    let flag : cond (pressed_in bs) 1 0 ∷ version ∷ [] ≡ from_end bs 2 ∷ from_end bs 1 ∷ [] =
    ap (λ n. n ∷ version ∷ []) (flag_is (flag_in bs) order.flag) ∙ ap (λ n. from_end bs 2 ∷ n ∷ []) (sym order.known) in
    append_same _ _ _ _ distance (append_same _ _ _ _ count flag)

three_parts : (bs : List ℕ) (a e : ℕ) → a ≤ e → bs ≡ take a bs ++ (between a e bs ++ drop e bs)
three_parts bs a e h =
    let to : a + (e - a) ≡ e = omega arith in
    let rest : between a e bs ++ drop e bs ≡ drop a bs = ap (λ k. between a e bs ++ drop k bs) (sym to) ∙ ap (λ ys. between a e bs ++ ys) (sym (drop-drop (e - a) a bs)) ∙ take-append-drop (e - a) (drop a bs) in
    sym (ap (λ ys. take a bs ++ ys) rest ∙ take-append-drop a bs)

unless_ok : (bs : List ℕ) (o : Option (ℕ × Field)) (c : Contents) → unless_beyond bs o ≡ Ok c → (o ≡ None) × (stroke_in bs ≡ c)
unless_ok bs None c e = (refl, cc)
unless_ok bs (Some at) c e = let z : ◌≡◌ {A = ℕ} 0 1 = cc in absurd (omega arith)

trailer_same : (d e m n : ℕ) (p q : Bool) → d ≡ e → m ≡ n → p ≡ q → trailer d m p ≡ trailer e n q
trailer_same d e m n p q same_d same_n same_p = rw (same_d, same_n, same_p)

-- bs, whose trailer is in order and whose stroke has no field beyond its limits
module _ (bs : List ℕ) (bytes : AllByRecursion (λ b. b < 256) bs) (order : InOrder bs) (none : first_beyond (stroke_in bs) ≡ None) where
  part_length : length (samples_in bs) ≡ distance_in bs
  part_length = length-between bs (start_in bs) (trailer_in bs) (omega arith) ∙ omega (arith, order.room)

  count_is : length (stroke_in bs).path ≡ count_in bs
  count_is =
      length_path (pressed_in bs) (samples_in bs) ∙ whole_samples (pressed_in bs) (count_in bs) (length (samples_in bs)) (part_length ∙ order.distance)

  stroke_sound : Sound (stroke_in bs)
  stroke_sound =
      sound_from (stroke_in bs) (omega (arith, count_is, order.some)) (omega (arith, count_is, order.most)) none (pressures_count (pressed_in bs) (samples_in bs))

  part_bytes : (k : ℕ) → get_or (samples_in bs) k 0 < 256
  part_bytes =
      let rest = All-drop (λ b. b < 256) (start_in bs) bs bytes in
      byte_at (samples_in bs) (All-take (λ b. b < 256) (trailer_in bs - start_in bs) (drop (start_in bs) bs) rest)

  encode_is : encode (stroke_in bs) ≡ samples_in bs ++ drop (trailer_in bs) bs
  encode_is =
      let samples = samples_are (samples_in bs) part_bytes (pressed_in bs) (count_in bs) (part_length ∙ order.distance) in
      let says = trailer_same _ _ _ _ _ _ (ap length samples ∙ part_length) count_is (pressed_is (pressed_in bs) (samples_in bs)) in
      let stands = trailer_is bs (byte_at bs bytes) order ∙ sym (drop_is_last trailer_size bs order.low) in
      append_same _ _ _ _ samples (says ∙ stands)

  file_is : FileOf (stroke_in bs) bs
  file_is =
      record {
        sound = stroke_sound;
        fits = order.high;
        notes = take (start_in bs) bs;
        is = three_parts bs (start_in bs) (trailer_in bs) (omega arith) ∙ ap (λ ys. take (start_in bs) bs ++ ys) (sym encode_is);
      }

pub granted : Granted
granted bs c bytes e =
    let order = in_order bs (ap rank e) in
    let fields = unless_ok bs (first_beyond (stroke_in bs)) c (sym (decode_in_order bs order) ∙ e) in
    subst (λ c. FileOf c bs) fields.1 (file_is bs bytes order fields.0)

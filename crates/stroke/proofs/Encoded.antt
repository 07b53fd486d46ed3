-- The bytes of a sound stroke, read as samples again, are that stroke.
use Rattle.std.proofs.Common.{◌≡◌, ℕ, suc, ◌+◌, ◌*◌, ◌<◌, Bool, true, false, List, map, length, get_or, ℤ, pos, is_some, Some, None, Option, sym, refl, ap, ◌∙◌, arith, w16, to_z}
use Rattle.std.specs.List.{range_with_len}
use Rattle.std.proofs.lemmas.List.FromFn.{fill_by_all}
use Rattle.stroke.specs.declared.fields.Field.TheVariants.{X, Y, Pressure}
use Rattle.stroke.specs.Contents.{Contents, Sound, path_at}
use Rattle.stroke.specs.Layout.{sample_size, field_at, word, signed_word}
use Rattle.stroke.specs.Reading.{samples_of, stroke_of}
use Rattle.stroke.specs.Writing.{pressure_bytes, sample_bytes, samples_bytes}
use Rattle.stroke.proofs.Samples.{whole_samples}
use Rattle.stroke.proofs.Rows.{length_rows, get_d_rows}
use Rattle.stroke.proofs.Soundness.{near_at, pressure_low}
use Rattle.stroke.proofs.Words.{two_back, signed_back}

-- whether the stroke has pressures
abbrev pub flag : Contents → Bool
flag c = is_some c.pressure

with_pressure : (o : Option (List ℕ)) (i : ℕ) → suc (suc (suc (suc (length (pressure_bytes o i))))) ≡ sample_size (is_some o)
with_pressure None i = refl
with_pressure (Some us) i = refl

pub length_sample : (c : Contents) (i : ℕ) → length (sample_bytes c i) ≡ sample_size (flag c)
length_sample c i = with_pressure c.pressure i

pub length_samples : (c : Contents) → length (samples_bytes c) ≡ length c.path * sample_size (flag c)
length_samples c = length_rows (sample_bytes c) (sample_size (flag c)) (length_sample c) (length c.path) 0

pub count_back : (c : Contents) → samples_of (flag c) (samples_bytes c) ≡ length c.path
count_back c = whole_samples (flag c) (length c.path) (length (samples_bytes c)) (length_samples c)

-- the two bytes at o of sample i
word_back : (c : Contents) (i o : ℕ) → i < length c.path → o + 1 < sample_size (flag c)
    → word (samples_bytes c) (i * sample_size (flag c) + o) ≡ get_or (sample_bytes c i) o 0 + get_or (sample_bytes c i) (o + 1) 0 * 256
word_back c i o h k =
    let w = sample_size (flag c) in
    let at : i * w + o + 1 ≡ i * w + (o + 1) = omega arith in
    let low = get_d_rows (sample_bytes c) w (length_sample c) (length c.path) i o 0 h (omega arith) in
    let high = get_d_rows (sample_bytes c) w (length_sample c) (length c.path) i (o + 1) 0 h k in
    rw (at, low, high)

four_at_least : (pressed : Bool) → 3 < sample_size pressed
four_at_least true = omega arith
four_at_least false = omega arith

path_back : (c : Contents) → Sound c → (stroke_of (flag c) (samples_bytes c)).path ≡ c.path
path_back c h =
    rw (count_back c)
    (sym (fill_by_all (λ i. (signed_word (samples_bytes c) (field_at (flag c) i X), signed_word (samples_bytes c) (field_at (flag c) i Y)))
    c.path (length c.path) (pos 0, pos 0) refl
    (λ i k.
    let near = near_at c h i in
    let x : signed_word (samples_bytes c) (field_at (flag c) i X) ≡ (path_at c i).0 =
    ap (to_z w16) (word_back c i 0 k (omega (arith, four_at_least (flag c)))) ∙ signed_back (path_at c i).0 near.0 in
    let y : signed_word (samples_bytes c) (field_at (flag c) i Y) ≡ (path_at c i).1 =
    ap (to_z w16) (word_back c i 2 k (four_at_least (flag c))) ∙ signed_back (path_at c i).1 near.1 in
    rw (x, y))))

pressure_back : (ps : List (ℤ × ℤ)) (o : Option (List ℕ)) → Sound (record { path = ps; pressure = o })
    → (stroke_of (is_some o) (samples_bytes (record { path = ps; pressure = o }))).pressure ≡ o
pressure_back ps None h = refl
pressure_back ps (Some us) h =
    let c : Contents = record { path = ps; pressure = Some us } in
    let back : map (λ i. word (samples_bytes c) (field_at true i Pressure)) (range_with_len 0 (samples_of true (samples_bytes c))) ≡ us =
    rw (count_back c)
    (sym (fill_by_all (λ i. word (samples_bytes c) (field_at true i Pressure)) us (length ps) 0 h.pressed.0
    (λ i k. sym (word_back c i 4 k (omega arith) ∙ two_back (get_or us i 0) (omega (arith, pressure_low c h i)))))) in
    ap Some back

pub stroke_back : (c : Contents) → Sound c → stroke_of (flag c) (samples_bytes c) ≡ c
stroke_back c h =
    ap (λ ps. record { path = ps; pressure = (stroke_of (flag c) (samples_bytes c)).pressure }) (path_back c h)
    ∙ ap (λ o. record { path = c.path; pressure = o }) (pressure_back c.path c.pressure h)

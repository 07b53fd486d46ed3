-- What write leaves is the file of a sound stroke, which is read back; and what is granted is such a file behind notes.
use Rattle.std.proofs.Common.{◌≡◌, ℕ, ◌+◌, ◌-◌, ◌*◌, ◌<◌, ◌≤◌, Bool, cond, ltb, List, ◌++◌, length, take, drop, Ok, Err, sym, refl, ap, ◌∙◌, append_assoc, arith, length-append}
use borrow.Rule.Slice.PartMut.{put_mid}
use Rattle.std.proofs.lemmas.List.{take_at, drop_at, drop-drop}
use Rattle.std.proofs.lemmas.Bool.Decides.{nat_tests}
use Rattle.writing.specs.declared.lent.LentFault.{LentFault}
use Rattle.writing.specs.declared.lent.LentFault.TheVariants.{Room}
use Rattle.stroke.specs.Contents.{Contents, Sound}
use Rattle.stroke.specs.Layout.{trailer_size, sample_size}
use Rattle.stroke.specs.Writing.{samples_bytes, trailer, trailer_bytes, encode}
use Rattle.writing.specs.Lending.{sized, within_limits}
use Rattle.writing.specs.Written.{written, after_writing, ReadAs, GrantedAsWritten}
use Rattle.writing.proofs.Granting.{sound_sized, sound_within}
use Rattle.stroke.proofs.Encoded.{flag, length_samples}
use Rattle.stroke.proofs.ReadsBack.{reads_back}
use Rattle.stroke.proofs.Granted.{granted}

pub length_encode : (c : Contents) → length (encode c) ≡ length c.path * sample_size (flag c) + trailer_size
length_encode c = omega (arith, length-append (samples_bytes c) (trailer_bytes c), length_samples c)

-- ---- what it answers
module _ (c : Contents) (size : Ok tt ≡ sized c) (limits : Ok tt ≡ within_limits c) where
  room_decides : (room : ℕ) → written c room ≡ cond (ltb room (length (encode c))) (Err Room) (Ok (length (encode c)))
  room_decides room = rw (sym size, sym limits)

  pub written_short : (room n : ℕ) → n ≡ length (encode c) → room < n → Err Room ≡ written c room
  written_short room n is less = let e = room_decides room in grind (arith, nat_tests)

  pub written_whole : (room n : ℕ) → n ≡ length (encode c) → n ≤ room → Ok n ≡ written c room
  written_whole room n is enough = let e = room_decides room in grind (arith, nat_tests)

  pub written_sized : (d : ℕ) → d ≡ sample_size (flag c) → length c.path * d + trailer_size ≡ length (encode c)
  written_sized d is = ap (λ w. length c.path * w + trailer_size) is ∙ sym (length_encode c)

-- ---- what it leaves
pub stays : (c : Contents) (out : List ℕ) (e : LentFault) → Err e ≡ written c (length out) → out ≡ after_writing c out
stays c out e is = rw (sym is)

pub leaves : (c : Contents) (out : List ℕ) (n : ℕ) → Ok n ≡ written c (length out) → encode c ++ drop (length (encode c)) out ≡ after_writing c out
leaves c out n is = rw (sym is)

placed : (ss tr out : List ℕ) (d : ℕ) → length ss ≡ d → length tr ≡ trailer_size
    → put_mid d (d + trailer_size - d) (ss ++ drop (d - 0) out) tr ≡ (ss ++ tr) ++ drop (d + trailer_size) out
placed ss tr out d long eight =
    let width : d + trailer_size - d ≡ trailer_size = omega arith in
    let whole : d - 0 ≡ d = omega arith in
    rw (width, whole, take_at ss (drop d out) d long, drop_at ss (drop d out) d long, drop-drop trailer_size d out)
    (sym (append_assoc ss tr (drop (d + trailer_size) out)))

pub file_left : (c : Contents) (ss tr out : List ℕ) (d : ℕ) (pressed : Bool) → ss ≡ samples_bytes c → tr ≡ trailer d (length c.path) pressed
    → d ≡ length (samples_bytes c) → pressed ≡ flag c
    → put_mid d (d + trailer_size - d) (ss ++ drop (d - 0) out) tr ≡ encode c ++ drop (length (encode c)) out
file_left c ss tr out d pressed samples ends far flagged =
    let file : ss ++ tr ≡ encode c = rw (samples, ends, far, flagged) in
    let len : d + trailer_size ≡ length (encode c) = omega (arith, length-append (samples_bytes c) (trailer_bytes c)) in
    placed ss tr out d (ap length samples ∙ sym far) (ap length ends) ∙ rw (file, len)

-- ---- which is read back
pub read_back : (c : Contents) → Sound c → (n : ℕ) (out rest : List ℕ) → n ≡ length (encode c) → out ≡ encode c ++ rest → ReadAs c out n
read_back c h n out rest len is notes fits =
    let front : take n out ≡ encode c = ap (take n) is ∙ take_at (encode c) rest n (sym len) in
    let whole = length-append notes (encode c) in
    rw front (reads_back (notes ++ encode c) c (record { sound = h; fits = omega arith; notes = notes; is = refl }))

pub granted_as_written : GrantedAsWritten
granted_as_written bs c bytes e =
    let file = granted bs c bytes e in
    let n = length (encode c) in
    let size = sym (sound_sized c file.sound) in
    let limits = sym (sound_within c file.sound) in
    let says = λ (room : ℕ) (enough : n ≤ room). sym (written_whole c size limits room n refl enough) in
    record {
      notes = file.notes;
      n = n;
      answer = says;
      is = λ out enough.
          let after : after_writing c out ≡ encode c ++ drop n out = rw (says (length out) enough) in
          file.is ∙ ap (λ xs. file.notes ++ xs) (sym (ap (take n) after ∙ take_at (encode c) (drop n out) n refl));
    }

-- Any notes before the bytes of a sound stroke are read as that stroke.
use Rattle.std.proofs.Common.{◌≡◌, ℕ, ◌+◌, ◌-◌, ◌*◌, ◌≤◌, Bool, true, false, cond, eqb, List, ◌++◌, length, get_or, Ok, sym, refl, ap, ◌∙◌, append_assoc, arith, length-append}
use Rattle.std.specs.List.{between}
use Rattle.std.proofs.lemmas.List.{get_or-append_right, take_at, drop_at}
use Rattle.stroke.specs.Contents.{Contents, Sound, most_samples, first_beyond}
use Rattle.stroke.specs.Layout.{most_bytes, trailer_size, sample_size}
use Rattle.stroke.specs.Reading.{from_end, distance_in, count_in, pressed_in, trailer_in, start_in, stroke_in, unless_beyond}
use Rattle.stroke.specs.Writing.{samples_bytes, trailer_bytes}
use Rattle.stroke.specs.Format.{ReadsBack}
use Rattle.stroke.proofs.Encoded.{flag, length_samples, stroke_back}
use Rattle.stroke.proofs.Soundness.{sound_none}
use Rattle.stroke.proofs.Trailer.{InOrder, decode_in_order}
use Rattle.stroke.proofs.Words.{two_back, four_back}

-- the byte that stands k before the end is one of the trailer's
from_end_back : (xs tr : List ℕ) (k : ℕ) → length tr ≡ trailer_size → k ≤ trailer_size → from_end (xs ++ tr) k ≡ get_or tr (trailer_size - k) 0
from_end_back xs tr k eight h =
    let len = length-append xs tr in
    let at : length (xs ++ tr) - k - length xs ≡ trailer_size - k = omega arith in
    get_or-append_right xs tr (length xs) (length (xs ++ tr) - k) 0 refl (omega arith) ∙ ap (λ j. get_or tr j 0) at

flag_back : (b : Bool) → (cond b 1 0 ≤ 1) × (eqb (cond b 1 0) 1 ≡ b)
flag_back true = (omega arith, refl)
flag_back false = (omega arith, refl)

few_bytes : (pressed : Bool) (n : ℕ) → n ≤ most_samples → n * sample_size pressed ≤ 3072
few_bytes true n h = omega arith
few_bytes false n h = omega arith

middle : (xs ys zs : List ℕ) (a e : ℕ) → a ≡ length xs → e ≡ length xs + length ys → between a e (xs ++ (ys ++ zs)) ≡ ys
middle xs ys zs a e from to =
    let long : e - a ≡ length ys = omega arith in
    rw (long, drop_at xs (ys ++ zs) a (sym from), take_at ys zs (length ys) refl)

-- what the trailer of c says, whatever stands before it
module _ (c : Contents) (h : Sound c) (xs : List ℕ) where
  byte : (k : ℕ) → k ≤ trailer_size → from_end (xs ++ trailer_bytes c) k ≡ get_or (trailer_bytes c) (trailer_size - k) 0
  byte k low = from_end_back xs (trailer_bytes c) k refl low

  few : length (samples_bytes c) ≤ 3072
  few = omega (arith, length_samples c, few_bytes (flag c) (length c.path) h.most)

  distance_back : distance_in (xs ++ trailer_bytes c) ≡ length (samples_bytes c)
  distance_back =
      rw (byte 8 (omega arith), byte 7 (omega arith), byte 6 (omega arith), byte 5 (omega arith))
      (four_back (length (samples_bytes c)) (omega (arith, few)))

  count_back : count_in (xs ++ trailer_bytes c) ≡ length c.path
  count_back = rw (byte 4 (omega arith), byte 3 (omega arith)) (two_back (length c.path) (omega (arith, h.most)))

  pressed_back : pressed_in (xs ++ trailer_bytes c) ≡ flag c
  pressed_back = rw (byte 2 (omega arith)) (flag_back (flag c)).1

  in_order : length (xs ++ trailer_bytes c) ≤ most_bytes → length (samples_bytes c) ≤ length xs → InOrder (xs ++ trailer_bytes c)
  in_order fits room =
      let len = length-append xs (trailer_bytes c) in
      record {
        low = omega arith;
        high = fits;
        known = byte 1 (omega arith);
        flag = rw (byte 2 (omega arith)) (flag_back (flag c)).0;
        some = omega (arith, count_back, h.some);
        most = omega (arith, count_back, h.most);
        distance = rw (distance_back, count_back, pressed_back) (length_samples c);
        room = omega (arith, distance_back);
      }

-- and what stands before it is read as c
pub reads_back : ReadsBack
reads_back bs c file =
    let ss = samples_bytes c in
    let tr = trailer_bytes c in
    let notes = file.notes in
    let h = file.sound in
    let whole : (notes ++ ss) ++ tr ≡ bs = append_assoc notes ss tr ∙ sym file.is in
    let front = length-append notes ss in
    let len = length-append (notes ++ ss) tr in
    let order : InOrder bs = rw whole at (in_order c h (notes ++ ss) (rw whole file.fits) (omega arith)) in
    let pressed : pressed_in bs ≡ flag c = rw whole at (pressed_back c h (notes ++ ss)) in
    let distance : distance_in bs ≡ length ss = rw whole at (distance_back c h (notes ++ ss)) in
    let long : length bs ≡ length notes + length ss + trailer_size = ap length (sym whole) ∙ omega arith in
    let samples : between (start_in bs) (trailer_in bs) bs ≡ ss =
    ap (between (start_in bs) (trailer_in bs)) file.is ∙ middle notes ss tr (start_in bs) (trailer_in bs) (omega arith) (omega arith) in
    let stroke : stroke_in bs ≡ c = rw (pressed, samples) (stroke_back c h) in
    decode_in_order bs order ∙ ap (unless_beyond bs) (ap first_beyond stroke ∙ sound_none c h) ∙ ap Ok stroke

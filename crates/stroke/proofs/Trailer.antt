-- The tests of the trailer, which come before that of the fields.
use Rattle.std.proofs.Common.{◌≡◌, ℕ, ◌*◌, ◌<◌, ◌≤◌, List, length, Ok, Err, Result, arith}
use Rattle.std.proofs.lemmas.Bool.Decides.{nat_tests}
use Rattle.stroke.specs.declared.fault.FileFault.{FileFault}
use Rattle.stroke.specs.Contents.{Contents, most_samples, first_beyond}
use Rattle.stroke.specs.Faults.{number_of}
use Rattle.stroke.specs.Layout.{most_bytes, version, trailer_size, sample_size}
use Rattle.stroke.specs.Reading.{distance_in, count_in, flag_in, version_in, pressed_in, trailer_in, stroke_in, unless_beyond, decode}

-- the trailer passes every test
pub record InOrder (bs : List ℕ) : Type 0 where
  pub low : trailer_size ≤ length bs
  pub high : length bs ≤ most_bytes
  pub known : version_in bs ≡ version
  pub flag : flag_in bs ≤ 1
  pub some : 0 < count_in bs
  pub most : count_in bs ≤ most_samples
  pub distance : distance_in bs ≡ count_in bs * sample_size (pressed_in bs)
  pub room : distance_in bs ≤ trailer_in bs

-- then the fields decide
pub decode_in_order : (bs : List ℕ) → InOrder bs → decode bs ≡ unless_beyond bs (first_beyond (stroke_in bs))
decode_in_order bs h = grind (arith, nat_tests)

-- 16 of what is granted, or else the number of the refusal
abbrev pub rank : Result Contents FileFault → ℕ
rank (Ok c) = 16
rank (Err e) = number_of e

pub in_order : (bs : List ℕ) → rank (decode bs) ≡ 16 → InOrder bs
in_order bs e =
    record {
      low = grind (arith, nat_tests);
      high = grind (arith, nat_tests);
      known = grind (arith, nat_tests);
      flag = grind (arith, nat_tests);
      some = grind (arith, nat_tests);
      most = grind (arith, nat_tests);
      distance = grind (arith, nat_tests);
      room = grind (arith, nat_tests);
    }

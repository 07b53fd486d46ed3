-- How far a file gets on its way into lent lists.
use Rattle.std.proofs.Common.{◌≡◌, ℕ, ◌<◌, ◌≤◌, ◌⊎◌, List, length, Ok, Err, ap, ◌∙◌, arith}
use Rattle.std.proofs.lemmas.Bool.Decides.{nat_tests}
use Rattle.stroke.specs.declared.fault.FileFault.{FileFault}
use Rattle.stroke.specs.Contents.{Contents, pressures}
use Rattle.stroke.specs.Reading.{decode}
use Rattle.refusal.specs.declared.Fault.TheVariants.{File, Length}
use Rattle.handover.specs.Reading.{with_room, read_in}

module _ (c : Contents) (path pressure : ℕ) where
  refused : (path < length c.path) ⊎ (pressure < length (pressures c)) → with_room path pressure (Ok c) ≡ Err Length
  refused short = grind (arith, nat_tests)

  granted : length c.path ≤ path → length (pressures c) ≤ pressure → with_room path pressure (Ok c) ≡ Ok c
  granted enough also = grind (arith, nat_tests)

module _ (path pressure : ℕ) (bs : List ℕ) where
  pub unread : (f : FileFault) → decode bs ≡ Err f → read_in path pressure bs ≡ Err (File f)
  unfolding read_in
  unread f is = ap (with_room path pressure) is

  module _ (c : Contents) (is : decode bs ≡ Ok c) where
    pub too_short : (path < length c.path) ⊎ (pressure < length (pressures c)) → read_in path pressure bs ≡ Err Length
    unfolding read_in
    too_short short = ap (with_room path pressure) is ∙ refused c path pressure short

    pub was_read : length c.path ≤ path → length (pressures c) ≤ pressure → read_in path pressure bs ≡ Ok c
    unfolding read_in
    was_read enough also = ap (with_room path pressure) is ∙ granted c path pressure enough also

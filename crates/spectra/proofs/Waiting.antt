-- A list that waits at the front of the work while what is behind it is written.
use Rattle.std.proofs.Common.{◌≡◌, ℕ, ◌-◌, ◌≤◌, List, ◌++◌, length, take, ap, ◌∙◌, arith}
use borrow.Rule.Slice.PartMut.{put_mid, post_of}
use Rattle.std.proofs.lemmas.List.{length-append, length-drop, take_at}
use Rattle.std.proofs.lemmas.Slice.{take-put_mid_below}

module _ {A : Type 0} (n : ℕ) (work front : List A) (long : length front ≡ n) where
  pub waits : (k : ℕ) (written : List A) → take (n - 0) (put_mid n k (front ++ post_of 0 (n - 0) work) written) ≡ front
  waits k written =
      let whole : n - 0 ≡ n = omega arith in
      let held = front ++ post_of 0 (n - 0) work in
      let room : n ≤ length held = omega (arith, length-append front (post_of 0 (n - 0) work)) in
      ap (λ x. take x (put_mid n k held written)) whole ∙ take-put_mid_below n k held written n (omega arith) room ∙ take_at front _ n long

  pub waiting_length : n ≤ length work → length (front ++ post_of 0 (n - 0) work) ≡ length work
  waiting_length room = simp (length-append, length-drop) (omega arith)

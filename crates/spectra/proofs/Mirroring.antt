-- A list whose elements after the first are turned round is the mirrored list.
use Rattle.std.proofs.Common.{◌≡◌, ℕ, zero, suc, ◌-◌, ◌%◌, ◌<◌, List, [], ◌∷◌, ◌++◌, reverse, length, get_or, take, drop, refl, sym, ap, ◌∙◌, mod-eq_of_lt, arith}
use native.Mathlib.Nat.{mod_self}
use borrow.Rule.Slice.PartMut.{put_mid}
use Rattle.std.proofs.lemmas.List.{append-nil, take_all, drop_all, length-reverse, get_or-reverse}
use Rattle.std.proofs.lemmas.List.FromFn.{fill_by_all}
use Rattle.spectra.specs.Moves.{mirrored}

module _ {A : Type 0} (d : A) where
  round_at : (x : A) (t : List A) (i : ℕ) → i < length (x ∷ t) → get_or (x ∷ reverse t) i d ≡ get_or (x ∷ t) ((length (x ∷ t) - i) % length (x ∷ t)) d
  round_at x t zero h =
      let n = length (x ∷ t) in
      let whole : n - 0 ≡ n = omega arith in
      sym (ap (λ k. get_or (x ∷ t) (k % n) d) whole ∙ ap (λ k. get_or (x ∷ t) k d) (mod_self n))
  round_at x t (suc i) h =
      let n = length (x ∷ t) in
      let less : n - suc i < n = omega arith in
      let back : n - suc i ≡ suc (length t - 1 - i) = omega arith in
      get_or-reverse t i d (omega arith) ∙ sym (ap (λ k. get_or (x ∷ t) k d) (mod-eq_of_lt less ∙ back))

  turned_round : (x : A) (t : List A) → x ∷ reverse t ≡ mirrored d (x ∷ t)
  unfolding mirrored
  turned_round x t =
      fill_by_all (λ i. get_or (x ∷ t) ((length (x ∷ t) - i) % length (x ∷ t)) d) (x ∷ reverse t) (length (x ∷ t)) d (ap suc (length-reverse t))
      (round_at x t)

  pub mirrored_none : (xs : List A) → length xs < 1 → xs ≡ mirrored d xs
  unfolding mirrored
  mirrored_none [] none = refl
  mirrored_none (x ∷ t) none = absurd (omega arith)

  pub mirrored_in_place : (xs ys : List A) → 0 < length xs → ys ≡ reverse (take (length xs - 1) (drop 1 xs)) → put_mid 1 (length xs - 1) xs ys ≡ mirrored d xs
  mirrored_in_place [] ys some is = absurd (omega arith)
  mirrored_in_place (x ∷ t) ys some is =
      let rest : length (x ∷ t) - 1 ≡ length t = omega arith in
      let round : ys ≡ reverse t = is ∙ ap (λ n. reverse (take n t)) rest ∙ ap reverse (take_all (length t) t (omega arith)) in
      ap (λ n. put_mid 1 n (x ∷ t) ys) rest ∙ ap (λ zs. x ∷ (ys ++ zs)) (drop_all (length t) t (omega arith))
      ∙ ap (λ zs. x ∷ zs) (append-nil ys ∙ round) ∙ turned_round x t

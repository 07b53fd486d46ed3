-- The two halves of a sheet's cells.
use Rattle.std.proofs.Common.{◌≡◌, ℕ, ◌-◌, ◌*◌, List, ◌++◌, length, take, drop, ap, ◌∙◌, arith}
use borrow.Rule.Slice.PartMut.{put_mid, post_of}
use Rattle.std.proofs.lemmas.List.{append-nil, take_all, take_at, drop_all, drop_at, length-append, length-drop, length-take-le}

module _ {A : Type 0} (n : ℕ) (cells : List A) (whole : length cells ≡ 2 * n) where
  pub length_samples : length (take n cells) ≡ n
  length_samples = length-take-le n cells (omega arith)

  pub length_tones : length (drop n cells) ≡ n
  length_tones = simp length-drop (omega arith)

  -- lent, and written back
  pub lent_tones : take (2 * n - n) (drop n cells) ≡ drop n cells
  lent_tones = take_all (2 * n - n) (drop n cells) (simp length-drop (omega arith))

  pub tones_put : (ys : List A) → put_mid n (2 * n - n) cells ys ≡ take n cells ++ ys
  tones_put ys =
      let none = drop_all (2 * n - n) (drop n cells) (simp length-drop (omega arith)) in
      ap (λ zs. take n cells ++ (ys ++ zs)) none ∙ ap (λ zs. take n cells ++ zs) (append-nil ys)

module _ {A : Type 0} (n : ℕ) (cells : List A) (whole : length cells ≡ 2 * n) where
  -- the first half lent and written back as ys, and then the second as zs
  pub halves_put : (F G : List A → List A) (ys zs : List A) → length ys ≡ length (take (n - 0) (drop 0 cells)) →
      ys ≡ F (take (n - 0) (drop 0 cells)) → zs ≡ G (take (2 * n - n) (drop n (ys ++ post_of 0 (n - 0) cells))) →
      put_mid n (2 * n - n) (ys ++ post_of 0 (n - 0) cells) zs ≡ F (take n cells) ++ G (drop n cells)
  halves_put F G ys zs kept first second =
      let half : n - 0 ≡ n = omega arith in
      let many : length ys ≡ n = kept ∙ ap (λ k. length (take k cells)) half ∙ length_samples n cells whole in
      let between : ys ++ post_of 0 (n - 0) cells ≡ ys ++ drop n cells = ap (λ k. ys ++ drop k cells) half in
      let long : length (ys ++ drop n cells) ≡ 2 * n = simp length-append (omega (arith, length_tones n cells whole)) in
      let tones : zs ≡ G (drop n cells) =
      second ∙ ap (λ xs. G (take (2 * n - n) (drop n xs))) between
      ∙ ap G (lent_tones n (ys ++ drop n cells) long ∙ drop_at ys (drop n cells) n many) in
      ap (λ xs. put_mid n (2 * n - n) xs zs) between ∙ tones_put n (ys ++ drop n cells) long zs
      ∙ ap (λ xs. xs ++ zs) (take_at ys (drop n cells) n many ∙ first ∙ ap (λ k. F (take k cells)) half) ∙ ap (λ xs. F (take n cells) ++ xs) tones

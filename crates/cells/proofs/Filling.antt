-- The second half of the cells filled, by way of the work.
use Rattle.std.proofs.Common.{◌≡◌, ℕ, ◌+◌, ◌-◌, ◌*◌, ◌≤◌, List, ◌++◌, length, take, drop, Ok, Err, refl, ap, ◌∙◌, arith}
use borrow.Rule.Slice.PartMut.{put_mid, post_of}
use Rattle.std.proofs.lemmas.List.{take_at, drop_at, length-append, length-drop}
use Rattle.arithmetic.specs.Meaning.{Meaning}
use Rattle.arithmetic.specs.Laws.{Lawful, Divides}
use Rattle.arithmetic.proofs.Ladder.{ExactLaws, exact_laws}
use Rattle.plan.specs.Radices.{size}
use Rattle.refusal.specs.declared.Fault.{Fault}
use Rattle.spectrum.specs.Granted.{scratch, transformed}
use Rattle.spectra.specs.Tones.{tones}
use Rattle.spectra.proofs.DefiningSums.{all_plans_agree}
use Rattle.cells.specs.Holding.{Holds}
use Rattle.cells.specs.Opening.{sized, filled}
use Rattle.cells.proofs.Granting.{Sized, Fits, sized_from_granted, fits_from_granted, transform_not_refused}
use Rattle.cells.proofs.Halves.{length_samples, lent_tones, tones_put}

-- samples with their tones under a plan are a sheet
pub holds_filled : {A R : Type 0} {m : Meaning A R} → ExactLaws m → (rs : List ℕ) (a : List A) → Divides (size rs) m.span → length a ≡ size rs → Holds m a (a ++ tones m rs a)
holds_filled {A} {R} {m} law rs a z long = record {
  samples = take_at a (tones m rs a) (length a) refl;
  sums = rw (drop_at a (tones m rs a) (length a) refl) (all_plans_agree law rs a z long);
}

-- the first n cells copied to the front of the work, which then is ws, and from there to the second half, which then is xs
module _ {A R : Type 0} (m : Meaning A R) (rs : List ℕ) (n : ℕ) (cells work ws xs : List A) (sizes : Ok n ≡ sized m rs (length cells)) (enough : n + scratch ≤ length work)
    (first : ws ≡ take (n - 0) (drop 0 cells)) (second : xs ≡ take (n - 0) (drop 0 (ws ++ post_of 0 (n - 0) work))) where
  is_sized : Sized m rs (length cells) n
  is_sized = sized_from_granted m rs (length cells) n sizes

  fits : Fits m n (length cells)
  fits = rw is_sized.length (fits_from_granted m (size rs) (length cells) is_sized.sheet)

  whole : length cells ≡ 2 * n
  whole = fits.whole

  half : n - 0 ≡ n
  half = omega arith

  fronts : ws ≡ take n cells
  fronts = first ∙ ap (λ k. take k cells) half

  many : length ws ≡ n
  many = ap length fronts ∙ length_samples n cells whole

  copied : xs ≡ take n cells
  copied = second ∙ ap (λ k. take k (ws ++ post_of 0 (n - 0) work)) half ∙ take_at ws _ n many ∙ fronts

  doubled : put_mid n (2 * n - n) cells xs ≡ take n cells ++ take n cells
  doubled = tones_put n cells whole xs ∙ ap (λ ys. take n cells ++ ys) copied

  twice : length (take n cells ++ take n cells) ≡ 2 * n
  twice = simp length-append (omega (arith, length_samples n cells whole))

  -- what is lent to the transform
  lent_samples : take (2 * n - n) (drop n (put_mid n (2 * n - n) cells xs)) ≡ take n cells
  lent_samples =
      ap (λ ys. take (2 * n - n) (drop n ys)) doubled ∙ lent_tones n (take n cells ++ take n cells) twice
      ∙ drop_at (take n cells) (take n cells) n (length_samples n cells whole)

  lent_work : length (ws ++ post_of 0 (n - 0) work) ≡ length work
  lent_work = simp (length-append, length-drop) (omega (arith, many, enough))

  pub not_refused : (f : Fault) → Err f ≡ transformed m.span rs (length (take (2 * n - n) (drop n (put_mid n (2 * n - n) cells xs)))) (length (ws ++ post_of 0 (n - 0) work)) → ⊥
  not_refused f = transform_not_refused m rs (length cells) n (length work) sizes enough _ _ f (ap length lent_samples ∙ length_samples n cells whole) lent_work

  -- it leaves the tones ys
  module _ (ys : List A) (made : ys ≡ tones m rs (take (2 * n - n) (drop n (put_mid n (2 * n - n) cells xs)))) where
    cells_after : put_mid n (2 * n - n) (put_mid n (2 * n - n) cells xs) ys ≡ take n cells ++ tones m rs (take n cells)
    cells_after =
        ap (λ zs. put_mid n (2 * n - n) zs ys) doubled ∙ tones_put n (take n cells ++ take n cells) twice ys
        ∙ ap (λ zs. zs ++ ys) (take_at (take n cells) (take n cells) n (length_samples n cells whole))
        ∙ ap (λ zs. take n cells ++ zs) (made ∙ ap (tones m rs) lent_samples)

    pub filled_cells : put_mid n (2 * n - n) (put_mid n (2 * n - n) cells xs) ys ≡ filled m rs cells
    filled_cells = cells_after ∙ ap (λ k. take k cells ++ tones m rs (take k cells)) is_sized.length

    pub filled_holds : Lawful m → Holds m (take n cells) (put_mid n (2 * n - n) (put_mid n (2 * n - n) cells xs) ys)
    filled_holds law =
        let z : Divides (size rs) m.span = (fits_from_granted m (size rs) (length cells) is_sized.sheet).divides in
        rw cells_after (holds_filled (exact_laws law fits.exact) rs (take n cells) z (length_samples n cells whole ∙ is_sized.length))

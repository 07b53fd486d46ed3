-- Where the second comma of a text is.
use Rattle.std.proofs.Common.{◌≡◌, ℕ, ◌+◌, ◌-◌, List, ◌∷◌, length, take, Option, Some, None, MatchOption, Bor, ap, sym, ◌∙◌, subst, slice_index, length-append, arith}
use Rattle.std.specs.List.{slice_range}
use Rattle.std.proofs.Math.Seq.{get_or-append_seam}
use Rattle.std.proofs.lemmas.List.{take_at, append_assoc}
use Rattle.std.proofs.lemmas.Str.Pattern.{IsSplitOnceResult, split_after, split_parts}
use Rattle.casework.specs.Spelling.{comma, Lacks, joined}

module _ (text : List ℕ) (cut : Option (Bor (List ℕ) × Bor (List ℕ))) (split : IsSplitOnceResult comma text cut) where
  -- the cut at the first comma, where one stands
  pub apart : (u more : List ℕ) (p : Bor (List ℕ) × Bor (List ℕ)) → cut ≡ Some p → Lacks comma u → text ≡ joined u more → (p.0.now ≡ u) × (p.1.now ≡ more)
  apart u more p is lacks whole = subst (λ r. MatchOption r ⊥ (λ x. (x.0.now ≡ u) × (x.1.now ≡ more))) is (split_after comma text u more cut split (omega arith) whole lacks)

  pub uncut : (u more : List ℕ) → cut ≡ None → Lacks comma u → text ≡ joined u more → ⊥
  uncut u more is lacks whole = subst (λ r. MatchOption r ⊥ (λ x. (x.0.now ≡ u) × (x.1.now ≡ more))) is (split_after comma text u more cut split (omega arith) whole lacks)

  -- where none stands there is no cut
  pub not_cut : (p : Bor (List ℕ) × Bor (List ℕ)) → cut ≡ Some p → Lacks comma text → ⊥
  not_cut p is lacks =
      let whole = (split_parts comma text (Some p) (subst (IsSplitOnceResult comma text) is split) (omega arith)).0 in
      let long = ap length whole ∙ length-append p.0.now (comma ∷ p.1.now) in
      lacks (length p.0.now) (omega (arith, long)) (ap (λ bs. slice_index bs (length p.0.now)) whole ∙ get_or-append_seam p.0.now comma p.1.now 0)

-- what stands up to the second
pub up_to_second : (text u v more : List ℕ) (n : ℕ) → text ≡ joined u (joined v more) → n ≡ length u + 1 + length v → slice_range text 0 n ≡ joined u v
up_to_second text u v more n whole at = ap (take (n - 0)) (whole ∙ sym (append_assoc u (comma ∷ v) (comma ∷ more))) ∙ take_at (joined u v) (comma ∷ more) (n - 0) (omega (arith, at, length-append u (comma ∷ v)))

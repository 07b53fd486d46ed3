-- A block made column by column, and a column row by row.
use Rattle.std.proofs.Common.{◌≡◌, ℕ, ◌+◌, ◌*◌, ◌/◌, ◌%◌, ◌<◌, ◌≤◌, List, length, get_or, set, sym, ap, ◌∙◌, subst, arith, below_more}
use Rattle.std.proofs.lemmas.List.{get_or-set_same, get_or-set_other}
use Rattle.std.proofs.lemmas.List.FromFn.{fill_by_all}
use Rattle.std.proofs.lemmas.Nat.{div-add-mod', div_below, mod_below}
use Rattle.arithmetic.specs.Meaning.{Meaning}
use Rattle.spectra.specs.Tones.{tone, combine}
use Rattle.spectrum.specs.Shapes.{Column}
use Rattle.spectra.proofs.Rows.{same_row, same_column}
use Rattle.spectrum.proofs.Sums.{tone_same}

-- the first n columns hold their tones, and the others are as they were
pub record Columns {A R : Type 0} (m : Meaning A R) (r len : ℕ) (n : ℕ) (before after : List A) : Type 0 where
  pub made : (i : ℕ) → i < r → (j : ℕ) → j < n → get_or after (i * len + j) m.zero ≡ tone m r len before (i * len + j)
  pub rest : (i : ℕ) → i < r → (j : ℕ) → n ≤ j → j < len → get_or after (i * len + j) m.zero ≡ get_or before (i * len + j) m.zero

module _ {A R : Type 0} (m : Meaning A R) {r len : ℕ} where
  pub column_more : {j n : ℕ} {xs ys : List A} (p : ℕ) (x : A) → Column m r len j n xs ys → j < len → p ≡ n * len + j → p < length ys → x ≡ tone m r len xs (n * len + j) → Column m r len j (n + 1) xs (set ys p x)
  column_more {j} {n} {xs} {ys} p x c l at within is = record {
    made = below_more (λ i. get_or (set ys p x) (i * len + j) m.zero ≡ tone m r len xs (i * len + j)) n
        (λ i h. get_or-set_other ys p (i * len + j) x m.zero (λ e. let same = same_row i n len j j l l (e ∙ at) in omega arith) ∙ c.made i h)
        (ap (λ q. get_or (set ys p x) q m.zero) (sym at) ∙ get_or-set_same ys p x m.zero within ∙ is);
    rest = λ q other.
        get_or-set_other ys p q x m.zero (λ e. other n (omega arith) (e ∙ at)) ∙ c.rest q (λ i h. other i (omega arith));
  }

  pub columns_more : {n : ℕ} {xs ys : List A} (zs : List A) → Columns m r len n xs ys → n < len → Column m r len n r ys zs → Columns m r len (n + 1) xs zs
  columns_more {n} {xs} {ys} zs c l d =
      let kept : (i j : ℕ) → j < len → (j ≡ n → ⊥) → get_or zs (i * len + j) m.zero ≡ get_or ys (i * len + j) m.zero =
      λ i j h other. d.rest (i * len + j) (λ k _ e. other (same_column i k len j n h l e)) in
      record {
        made = λ i p. below_more (λ j. get_or zs (i * len + j) m.zero ≡ tone m r len xs (i * len + j)) n
            (λ j h. kept i j (omega arith) (λ e. omega arith) ∙ c.made i p j h)
            (d.made i p ∙ tone_same m r len n i ys xs l (λ q t. c.rest q t n (omega arith) l));
        rest = λ i p j low h. kept i j h (λ e. omega arith) ∙ c.rest i p j (omega arith) h;
      }

  pub columns_all : {n : ℕ} {xs ys : List A} → Columns m r len n xs ys → n ≡ len → 0 < len → length ys ≡ r * len → ys ≡ combine m r len xs
  unfolding combine
  columns_all {n} {xs} {ys} c end l long =
      fill_by_all (tone m r len xs) ys (r * len) m.zero long
      (λ k h. subst (λ (x : ℕ). get_or ys x m.zero ≡ tone m r len xs x) (div-add-mod' k len) (c.made (k / len) (div_below k len r l h) (k % len) (omega (arith, mod_below k len l))))

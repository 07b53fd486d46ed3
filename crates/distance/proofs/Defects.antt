-- The product of two directions is nearly the direction of their sum: tested once over a quarter by a quarter, and carried on from there.
use Rattle.std.proofs.Common.{◌≡◌, ℕ, ◌+◌, ◌<◌, ◌≤◌, Bool, T, leb, List, [], ◌∷◌, ℤ, pos, ◌+ℤ◌, ◌-ℤ◌, ◌*ℤ◌, neg_ℤ, nat_abs, sym, ap, ◌∙◌, subst, add_comm, arith, leb→le}
use lib.IntN.{*ℤ_comm}
use Rattle.algebra.proofs.Ranges.{both, both_first, both_second, below, below_at}
use Rattle.algebra.proofs.Sizes.{nat_abs_neg}
use Rattle.algebra.proofs.Ring.{num, var, ◌⊕◌, ◌⊖◌, ◌⊗◌, opp, ring}
use Rattle.quarter.specs.Entries.{S, quarter, entry, onward}
use Rattle.quarter.specs.Table.{quarter_table}
use Rattle.quarter.proofs.Symmetry.{entry_onward}
use Rattle.distance.proofs.Quarters.{by_quarters}

-- the largest defect there is in the table
abbrev pub D : ℕ
D = 2_447_900_954

-- what the product of the directions p and q, (c + i s)(c' + i s'), has more than S r, in both parts
abbrev pub defect_c : ℤ × ℤ → ℤ × ℤ → ℤ × ℤ → ℤ
defect_c p q r = p.0 *ℤ q.0 -ℤ p.1 *ℤ q.1 -ℤ pos S *ℤ r.0

abbrev pub defect_s : ℤ × ℤ → ℤ × ℤ → ℤ × ℤ → ℤ
defect_s p q r = p.1 *ℤ q.0 +ℤ p.0 *ℤ q.1 -ℤ pos S *ℤ r.1

pub record Close (p q r : ℤ × ℤ) : Type 0 where
  pub c : nat_abs (defect_c p q r) ≤ D
  pub s : nat_abs (defect_s p q r) ≤ D

-- ---- the first quarter, by computing

close : ℕ → ℕ → Bool
close e f =
    both
    (leb (nat_abs (defect_c (entry e) (entry f) (entry (e + f)))) D)
    (leb (nat_abs (defect_s (entry e) (entry f) (entry (e + f)))) D)

all_close : T (below quarter (λ e. below quarter (close e)))
unfolding close quarter_table
all_close = tt

quarter_close : (e f : ℕ) → e < quarter → f < quarter → Close (entry e) (entry f) (entry (e + f))
unfolding close
quarter_close e f he hf =
    let t = below_at quarter (close e) (below_at quarter (λ n. below quarter (close n)) all_close e he) f hf in
    record { c = leb→le _ _ (both_first _ _ t); s = leb→le _ _ (both_second _ _ t) }

-- ---- with a factor a quarter further the product is so too, and the two defects trade places

module _ (p q r : ℤ × ℤ) where
  values : List ℤ
  values = p.0 ∷ p.1 ∷ q.0 ∷ q.1 ∷ r.0 ∷ r.1 ∷ []

  c_onward : defect_c (onward p) q (onward r) ≡ neg_ℤ (defect_s p q r)
  unfolding values
  c_onward =
      let a = var 0 in let b = var 1 in let c = var 2 in let d = var 3 in let h = var 5 in let n = num (pos S) in
      ring (opp b ⊗ c ⊖ a ⊗ d ⊖ n ⊗ opp h) (opp (b ⊗ c ⊕ a ⊗ d ⊖ n ⊗ h)) values tt

  s_onward : defect_s (onward p) q (onward r) ≡ defect_c p q r
  unfolding values
  s_onward =
      let a = var 0 in let b = var 1 in let c = var 2 in let d = var 3 in let g = var 4 in let n = num (pos S) in
      ring (a ⊗ c ⊕ opp b ⊗ d ⊖ n ⊗ g) (a ⊗ c ⊖ b ⊗ d ⊖ n ⊗ g) values tt

  onward_close : Close p q r → Close (onward p) q (onward r)
  onward_close h =
      let c = ap nat_abs c_onward ∙ nat_abs_neg (defect_s p q r) in
      let s = ap nat_abs s_onward in
      record { c = omega arith; s = omega arith }

  c_swapped : defect_c q p r ≡ defect_c p q r
  c_swapped = λ i. *ℤ_comm q.0 p.0 i -ℤ *ℤ_comm q.1 p.1 i -ℤ pos S *ℤ r.0

  s_swapped : defect_s q p r ≡ defect_s p q r
  unfolding values
  s_swapped =
      let a = var 0 in let b = var 1 in let c = var 2 in let d = var 3 in let h = var 5 in let n = num (pos S) in
      ring (d ⊗ a ⊕ c ⊗ b ⊖ n ⊗ h) (b ⊗ c ⊕ a ⊗ d ⊖ n ⊗ h) values tt

  swapped_close : Close p q r → Close q p r
  swapped_close h =
      let c = ap nat_abs c_swapped in
      let s = ap nat_abs s_swapped in
      record { c = omega arith; s = omega arith }

-- ---- the whole table

Here : ℕ → ℕ → Type 0
Here e f = Close (entry e) (entry f) (entry (e + f))

further : (e f : ℕ) → Here e f → Here (e + quarter) f
unfolding Here
further e f h =
    let sum : e + f + quarter ≡ e + quarter + f = omega arith in
    let one = sym (entry_onward e) in
    let both = sym (entry_onward (e + f)) ∙ ap entry sum in
    subst (λ (x : (ℤ × ℤ) × (ℤ × ℤ)). Close x.0 (entry f) x.1) (λ i. (one i, both i))
    (onward_close (entry e) (entry f) (entry (e + f)) h)

swapped : (e f : ℕ) → Here e f → Here f e
unfolding Here
swapped e f h =
    subst (λ (n : ℕ). Close (entry f) (entry e) (entry n)) (add_comm e f) (swapped_close (entry e) (entry f) (entry (e + f)) h)

pub products_close : (e f : ℕ) → Close (entry e) (entry f) (entry (e + f))
unfolding Here
products_close e =
    by_quarters (Here e)
    (λ f h. by_quarters (λ d. Here d f) (λ d l. quarter_close d f l h) (λ d. further d f) e)
    (λ f h. swapped (f + quarter) e (further f e (swapped e f h)))

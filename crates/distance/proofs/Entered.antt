-- A path as it enters the fixed arithmetic: its samples are small, and its tones should be its sums.
use Rattle.std.proofs.Common.{◌≡◌, ℕ, zero, suc, ◌+◌, ◌*◌, ◌/◌, ◌%◌, List, [], ◌∷◌, map, length, ℤ, pos, ◌*ℤ◌, Some, sym, refl, ap, ◌∙◌, add_comm, zero-add, arith}
use Rattle.std.specs.List.{AllByRecursion}
use Rattle.std.proofs.lemmas.Int.{ints}
use Rattle.algebra.proofs.Ring.{var, ◌⊕◌, ◌⊖◌, ◌⊗◌, opp, ring}
use Rattle.algebra.proofs.Sizes.{nat_abs_mul}
use Rattle.quarter.specs.Entries.{circle, quarter, entry, onward}
use Rattle.quarter.proofs.Symmetry.{entry_onward}
use Rattle.fixed.specs.declared.Fixed.{Fixed}
use Rattle.fixed.specs.Pairs.{sampled, units, entered}
use Rattle.stroke.specs.Contents.{Near as WithinLimits}
use Rattle.distance.specs.Sums.{point, direction, turned_x, turned_y, sum_x, sum_y}
use Rattle.distance.specs.Checked.{kept}
use Rattle.distance.proofs.Lists.{get_or_map_of}
use Rattle.distance.proofs.Quarters.{entry_same}
use Rattle.distance.proofs.Steps.{steps_round, step_is}
use Rattle.distance.proofs.Totals.{total_same, total_scaled}
use Rattle.distance.proofs.Turns.{along}
use Rattle.distance.proofs.Whole.{Fits}
use Rattle.distance.proofs.Exactly.{sample, exactly, Modest, origin_modest}
use Rattle.distance.proofs.Unwrapped.{kept_same}

-- ---- the samples

sampled_modest : (p : ℤ × ℤ) → WithinLimits p → Modest (sampled p.0 p.1)
sampled_modest p h =
    let x = nat_abs_mul units p.0 in
    let y = nat_abs_mul units p.1 in
    let low = h.0 in
    let high = h.1 in
    record { x = omega arith; y = omega arith }

pub entered_modest : (path : List (ℤ × ℤ)) → AllByRecursion WithinLimits path → (t : ℕ) → Modest (sample (entered path) t)
entered_modest [] h t = origin_modest
entered_modest (p ∷ path) h zero = sampled_modest p h.0
entered_modest (p ∷ path) h (suc t) = entered_modest path h.1 t

modest_fits : (a : Fixed) → Modest a → Fits a
modest_fits a h =
    let x = h.x in
    let y = h.y in
    record { x = record { low = omega (arith, ints); high = omega (arith, ints) }; y = record { low = omega (arith, ints); high = omega (arith, ints) } }

pub kept_entered : (path : List (ℤ × ℤ)) → AllByRecursion WithinLimits path → map kept (entered path) ≡ map Some (entered path)
kept_entered [] h = refl
kept_entered (p ∷ path) h = λ i. kept_same (sampled p.0 p.1) (modest_fits (sampled p.0 p.1) (sampled_modest p h.0)) i ∷ kept_entered path h.1 i

-- ---- the tones, along the directions 0 and a quarter

point_entered : (path : List (ℤ × ℤ)) (t : ℕ) → sample (entered path) t ≡ sampled (point path t).0 (point path t).1
point_entered path t = get_or_map_of (λ p. sampled p.0 p.1) (pos 0, pos 0) path t

along_direction : (p d : ℤ × ℤ) → along d (sampled p.0 p.1) ≡ units *ℤ turned_x p d
along_direction p d =
    let u = var 0 in let x = var 1 in let y = var 2 in let c = var 3 in let s = var 4 in
    ring ((u ⊗ x) ⊗ c ⊕ (u ⊗ y) ⊗ s) (u ⊗ (x ⊗ c ⊕ y ⊗ s)) (units ∷ p.0 ∷ p.1 ∷ d.0 ∷ d.1 ∷ []) tt

along_onward : (p d : ℤ × ℤ) → along (onward d) (sampled p.0 p.1) ≡ units *ℤ turned_y p d
along_onward p d =
    let u = var 0 in let x = var 1 in let y = var 2 in let c = var 3 in let s = var 4 in
    ring ((u ⊗ x) ⊗ opp s ⊕ (u ⊗ y) ⊗ c) (u ⊗ (y ⊗ c ⊖ x ⊗ s)) (units ∷ p.0 ∷ p.1 ∷ d.0 ∷ d.1 ∷ []) tt

module _ (path : List (ℤ × ℤ)) (u k : ℕ) (round : length path * u ≡ circle) where
  direction_is : (t : ℕ) → entry ((t * k) * u) ≡ direction (length path) k t
  direction_is t =
      let n = length path in
      sym (ap (λ v. entry (((t * k) % n) * v)) (step_is n u round) ∙ entry_same (((t * k) % n) * u) ((t * k) * u) ((t * k) / n) (steps_round n u round (t * k)))

  pub exactly_x : exactly (entered path) (length path) u k 0 ≡ units *ℤ sum_x path k
  exactly_x =
      let at : (t : ℕ) → entry (0 + (t * k) * u) ≡ direction (length path) k t = λ t. ap entry (zero-add ((t * k) * u)) ∙ direction_is t in
      total_same _ _ (length path) (λ t _. (λ i. along (at t i) (point_entered path t i)) ∙ along_direction (point path t) (direction (length path) k t))
      ∙ total_scaled units (λ t. turned_x (point path t) (direction (length path) k t)) (length path)

  pub exactly_y : exactly (entered path) (length path) u k quarter ≡ units *ℤ sum_y path k
  exactly_y =
      let at : (t : ℕ) → entry (quarter + (t * k) * u) ≡ onward (direction (length path) k t) = λ t.
      ap entry (add_comm quarter ((t * k) * u)) ∙ entry_onward ((t * k) * u) ∙ ap onward (direction_is t) in
      total_same _ _ (length path) (λ t _. (λ i. along (at t i) (point_entered path t i)) ∙ along_onward (point path t) (direction (length path) k t))
      ∙ total_scaled units (λ t. turned_y (point path t) (direction (length path) k t)) (length path)

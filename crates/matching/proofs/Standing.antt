-- A number u stands for the whole number z by a modulus m if u - z is a multiple of m.
-- Sums, products and differences of what stands for them stand for the sums, products and differences of whole numbers,
-- and of the whole numbers within half the modulus a remainder stands for one alone.
use Rattle.std.proofs.Common.{◌≡◌, ℕ, suc, ◌+◌, ◌-◌, ◌*◌, ◌%◌, ◌<◌, ◌≤◌, true, false, cond, ltb, ℤ, pos, negsuc, ◌+ℤ◌, ◌-ℤ◌, ◌*ℤ◌, neg_ℤ, nat_abs, sym, refl, ap, ◌∙◌, ⊎_elim, add-zero, mod-eq_of_lt, arith}
use native.Mathlib.Nat.{zero-mod, mod-eq-sub-mod, mod-add-mod}
use borrow.Author.Differences.{up, down, sum_is_lem, neg_is, product_is}
use Rattle.std.proofs.lemmas.Int.{ints}
use Rattle.std.proofs.lemmas.Bool.{cases_lt}
use Rattle.std.proofs.lemmas.Bool.Decides.{nat_tests}
use Rattle.algebra.proofs.Remainders.{same_sum, same_product, difference_sum}

abbrev pub Stands : ℕ → ℕ → ℤ → Type 0
Stands m u z = (u + down z) % m ≡ up z % m

module _ (m : ℕ) (some : 0 < m) where
  -- s taken away on both sides
  back : (x s : ℕ) → ((x + s) + (m - s % m)) % m ≡ x % m
  back x s =
      let order : (x + s) + (m - s % m) ≡ (x + (m - s % m)) + s = omega arith in
      ap (λ n. n % m) order ∙ sym (mod-add-mod (x + (m - s % m)) m s) ∙ difference_sum m some x s

  cancel : (x y s : ℕ) → (x + s) % m ≡ (y + s) % m → x % m ≡ y % m
  cancel x y s e = sym (back x s) ∙ same_sum m (x + s) (y + s) (m - s % m) (m - s % m) e refl ∙ back y s

  pub stands_reduced : (u : ℕ) (z : ℤ) → Stands m u z → Stands m (u % m) z
  stands_reduced u z e = mod-add-mod u m (down z) ∙ e

  module _ (u v : ℕ) (z w : ℤ) (p : Stands m u z) (q : Stands m v w) where
    pub stands_sum : Stands m (u + v) (z +ℤ w)
    stands_sum =
        let d = down (z +ℤ w) in
        let left : u + v + d + (down z + down w) ≡ (u + down z) + (v + down w) + d = omega arith in
        let right : up z + up w + d ≡ up (z +ℤ w) + (down z + down w) = omega (arith, sum_is_lem z w) in
        cancel (u + v + d) (up (z +ℤ w)) (down z + down w)
        (ap (λ n. n % m) left
        ∙ same_sum m ((u + down z) + (v + down w)) (up z + up w) d d (same_sum m (u + down z) (up z) (v + down w) (up w) p q) refl
        ∙ ap (λ n. n % m) right)

    pub stands_product : Stands m (u * v) (z *ℤ w)
    stands_product =
        let is = product_is z w in
        let left : u * v + down (z *ℤ w) ≡ u * v + (up z * down w + down z * up w) = ap (λ n. u * v + n) is.1 in
        -- with u + down z for up z, and v + down w for up w
        let first = same_product m (u + down z) (up z) (down w) (down w) p refl in
        let second = same_product m (down z) (down z) (v + down w) (up w) refl q in
        let both = same_sum m ((u + down z) * down w) (up z * down w) (down z * (v + down w)) (down z * up w) first second in
        let out : u * v + ((u + down z) * down w + down z * (v + down w)) ≡ (u + down z) * (v + down w) + down z * down w = omega arith in
        ap (λ n. n % m) left
        ∙ sym (same_sum m (u * v) (u * v) ((u + down z) * down w + down z * (v + down w)) (up z * down w + down z * up w) refl both)
        ∙ ap (λ n. n % m) out
        ∙ same_sum m ((u + down z) * (v + down w)) (up z * up w) (down z * down w) (down z * down w) (same_product m (u + down z) (up z) (v + down w) (up w) p q) refl
        ∙ ap (λ n. n % m) (sym is.0)

    pub stands_difference : Stands m (u + (m - v % m)) (z -ℤ w)
    stands_difference =
        let j = m - v % m in
        let d = down (z -ℤ w) in
        let is = sum_is_lem z (neg_ℤ w) in
        let neg = neg_is w in
        let left : u + j + d + (down z + up w) ≡ (u + down z + d) + (j + up w) = omega arith in
        let met : (j + up w) % m ≡ down w % m =
        same_sum m j j (up w) (v + down w) refl (sym q)
        ∙ ap (λ n. n % m) (let o : j + (v + down w) ≡ (down w + v) + j = omega arith in o) ∙ back (down w) v in
        let right : up z + d + down w ≡ up (z -ℤ w) + (down z + up w) = omega arith in
        cancel (u + j + d) (up (z -ℤ w)) (down z + up w)
        (ap (λ n. n % m) left
        ∙ same_sum m (u + down z + d) (up z + d) (j + up w) (down w) (same_sum m (u + down z) (up z) d d p refl) met
        ∙ ap (λ n. n % m) right)

-- a number above 0 and below 2 m that leaves nothing is m
wraps : (m x : ℕ) → 0 < x → x < m + m → x % m ≡ 0 → x ≡ m
wraps m x some less z =
    ⊎_elim
    (λ (l : x < m). let same : x % m ≡ x = mod-eq_of_lt l in absurd (omega arith))
    (λ (g : m ≤ x). let rest : x - m < m = omega arith in let left : x % m ≡ x - m = mod-eq-sub-mod g ∙ mod-eq_of_lt rest in omega arith)
    (cases_lt x m)

-- a remainder read as signed is the whole number that it stands for, if that is within half the modulus
pub read_signed : (m h u : ℕ) (z : ℤ) → m ≡ h + h + 1 → u < m → nat_abs z ≤ h → Stands m u z → cond (ltb h u) (pos u -ℤ pos m) (pos u) ≡ z
read_signed m h u (pos n) odd below near e =
    let small : n < m = omega arith in
    let same : u ≡ n = sym (mod-eq_of_lt below) ∙ ap (λ k. k % m) (sym (add-zero u)) ∙ e ∙ mod-eq_of_lt small in
    let low : ltb h u ≡ false = grind (arith, nat_tests) in
    rw low (ap pos same)
read_signed m h u (negsuc n) odd below near e =
    let whole = wraps m (u + suc n) (omega arith) (omega arith) (e ∙ zero-mod m) in
    let high : ltb h u ≡ true = grind (arith, nat_tests) in
    rw high (omega (arith, ints))

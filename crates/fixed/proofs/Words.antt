-- Numbers on their way through machine words: products of a number and a direction's part, their sums, and the low bits.
use Rattle.std.proofs.Common.{◌≡◌, ◌%◌, ◌^◌, ◌≤◌, ℤ, pos, negsuc, ◌+ℤ◌, ◌-ℤ◌, ◌*ℤ◌, nat_abs, refl, sym, subst, ap, ◌∙◌, arith, w32, w64, SFits, to_z, of_z}
use Rattle.std.specs.Int.{int_rem_euclid}
use Rattle.std.proofs.lemmas.Int.{ints, to_z-of_z, int_rem_euclid_is}
use Rattle.std.proofs.lemmas.Nat.{mul-le}
use Rattle.algebra.proofs.Sizes.{nat_abs_mul}
use Rattle.quarter.specs.Entries.{S, Short}

-- a word of 32 bits, widened
widened : (z : ℤ) → SFits w32 z → to_z w64 (of_z w64 (to_z w32 (of_z w32 z))) ≡ z
widened z f = ap (λ y. to_z w64 (of_z w64 y)) (to_z-of_z w32 z f) ∙ to_z-of_z w64 z (omega (arith, ints))

-- the product of two such words
abbrev product : ℤ → ℤ → ℤ
product a b = to_z w64 (of_z w64 (to_z w64 (of_z w64 (to_z w32 (of_z w32 a))) *ℤ to_z w64 (of_z w64 (to_z w32 (of_z w32 b)))))

module _ (a b : ℤ) (f : SFits w32 a) (g : SFits w32 b) (h : nat_abs b ≤ S) where
  product_small : nat_abs (a *ℤ b) ≤ 2 ^ 61
  product_small =
      let k : nat_abs a ≤ 2 ^ 31 = omega (arith, ints) in
      omega (arith, nat_abs_mul a b, mul-le (nat_abs a) (nat_abs b) (2 ^ 31) S k h)

  product_whole : product a b ≡ a *ℤ b
  product_whole =
      (λ i. to_z w64 (of_z w64 (widened a f i *ℤ widened b g i)))
      ∙ to_z-of_z w64 (a *ℤ b) (let s = product_small in omega (arith, ints))

-- what a and b come to along the direction (c, s), and beside it
module _ (a b c s : ℤ) (fa : SFits w32 a) (fb : SFits w32 b) (fc : SFits w32 c) (fs : SFits w32 s) (short : Short (c, s)) where
  along_whole : product a c +ℤ product b s ≡ a *ℤ c +ℤ b *ℤ s
  along_whole = λ i. product_whole a c fa fc short.c i +ℤ product_whole b s fb fs short.s i

  beside_whole : product a c -ℤ product b s ≡ a *ℤ c -ℤ b *ℤ s
  beside_whole = λ i. product_whole a c fa fc short.c i -ℤ product_whole b s fb fs short.s i

  along_small : nat_abs (a *ℤ c +ℤ b *ℤ s) ≤ 2 ^ 62
  along_small = let p = product_small a c fa fc short.c in let q = product_small b s fb fs short.s in omega (arith, ints)

  beside_small : nat_abs (a *ℤ c -ℤ b *ℤ s) ≤ 2 ^ 62
  beside_small = let p = product_small a c fa fc short.c in let q = product_small b s fb fs short.s in omega (arith, ints)

  pub along_fits : SFits w64 (product a c +ℤ product b s)
  along_fits = let e = along_whole in let small = along_small in omega (arith, ints)

  pub beside_fits : SFits w64 (product a c -ℤ product b s)
  beside_fits = let e = beside_whole in let small = beside_small in omega (arith, ints)

  pub along_is : to_z w64 (of_z w64 (product a c +ℤ product b s)) ≡ a *ℤ c +ℤ b *ℤ s
  along_is = to_z-of_z w64 (product a c +ℤ product b s) along_fits ∙ along_whole

  pub along_most : nat_abs (to_z w64 (of_z w64 (product a c +ℤ product b s))) ≤ 2 ^ 62
  along_most = subst (λ (z : ℤ). nat_abs z ≤ 2 ^ 62) (sym along_is) along_small

  pub beside_is : to_z w64 (of_z w64 (product a c -ℤ product b s)) ≡ a *ℤ c -ℤ b *ℤ s
  beside_is = to_z-of_z w64 (product a c -ℤ product b s) beside_fits ∙ beside_whole

  pub beside_most : nat_abs (to_z w64 (of_z w64 (product a c -ℤ product b s))) ≤ 2 ^ 62
  beside_most = subst (λ (z : ℤ). nat_abs z ≤ 2 ^ 62) (sym beside_is) beside_small

pub low_bits : (z : ℤ) → SFits w64 z → int_rem_euclid z (pos (2 ^ 32)) ≡ pos (of_z w64 z % 2 ^ 32)
low_bits (pos a) h = refl
low_bits (negsuc a) h = let f = h.sfits in int_rem_euclid_is (negsuc a) (pos (2 ^ 32)) (2 ^ 32) (2 ^ 32) (of_z w64 (negsuc a)) (omega arith) refl (omega (arith, ints))

-- The size of negatives, products and sums of integers. Assumes nothing.
use Rattle.std.proofs.Common.{◌≡◌, zero, suc, ◌+◌, ◌*◌, ◌≤◌, ℤ, pos, negsuc, ◌+ℤ◌, ◌*ℤ◌, neg_ℤ, nat_abs, refl, arith}
use Rattle.std.proofs.lemmas.Int.{ints}

pub nat_abs_neg : (a : ℤ) → nat_abs (neg_ℤ a) ≡ nat_abs a
nat_abs_neg (pos zero) = refl
nat_abs_neg (pos (suc n)) = refl
nat_abs_neg (negsuc n) = refl

pub nat_abs_mul : (a b : ℤ) → nat_abs (a *ℤ b) ≡ nat_abs a * nat_abs b
nat_abs_mul (pos a) (pos b) = refl
nat_abs_mul (pos a) (negsuc b) = nat_abs_neg (pos (a * suc b))
nat_abs_mul (negsuc a) (pos b) = nat_abs_neg (pos (suc a * b))
nat_abs_mul (negsuc a) (negsuc b) = refl

pub nat_abs_add : (a b : ℤ) → nat_abs (a +ℤ b) ≤ nat_abs a + nat_abs b
nat_abs_add a b = omega (arith, ints)

pub nat_abs_mul_add : (a b c d : ℤ) → nat_abs (a *ℤ b +ℤ c *ℤ d) ≤ nat_abs a * nat_abs b + nat_abs c * nat_abs d
nat_abs_mul_add a b c d = omega (arith, nat_abs_add (a *ℤ b) (c *ℤ d), nat_abs_mul a b, nat_abs_mul c d)

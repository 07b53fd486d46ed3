-- A sum in an arithmetic stands for the sum of what its terms stand for, and a sum is no larger than its terms are.
use Rattle.std.proofs.Common.{◌≡◌, ℕ, zero, suc, ◌+◌, ◌*◌, ◌<◌, ◌≤◌, sym, subst, arith}
use Rattle.arithmetic.specs.Meaning.{Meaning}
use Rattle.arithmetic.specs.Series.{series}
use Rattle.matching.specs.Lags.{total}

-- x stands for z by S, which sums keep
module _ {A R B : Type 0} (m : Meaning A R) (plus : B → B → B) (none : B) (S : A → B → Type 0)
    (keeps : (x y : A) (z w : B) → S x z → S y w → S (m.sum x y) (plus z w)) (neutral : (z : B) → plus none z ≡ z) where
  pub total_stands : (f : ℕ → A) (g : ℕ → B) (n : ℕ) → 0 < n → ((t : ℕ) → t < n → S (f t) (g t)) → S (series m f n) (total plus none g n)
  unfolding series total
  total_stands f g zero some each = absurd (omega arith)
  total_stands f g (suc zero) some each = subst (S (f 0)) (sym (neutral (g 0))) (each 0 (omega arith))
  total_stands f g (suc (suc n)) some each =
      keeps (series m f (suc n)) (f (suc n)) (total plus none g (suc n)) (g (suc n))
      (total_stands f g (suc n) (omega arith) (λ t h. each t (omega arith))) (each (suc n) (omega arith))

-- a size of which sums are no larger than their parts together
module _ {B : Type 0} (plus : B → B → B) (none : B) (size : B → ℕ) (small : size none ≡ 0)
    (together : (z w : B) → size (plus z w) ≤ size z + size w) where
  pub total_small : (most : ℕ) (g : ℕ → B) (n : ℕ) → ((t : ℕ) → t < n → size (g t) ≤ most) → size (total plus none g n) ≤ n * most
  unfolding total
  total_small most g zero each = omega arith
  total_small most g (suc n) each =
      let before = total_small most g n (λ t h. each t (omega arith)) in
      let here = each n (omega arith) in
      omega (arith, together (total plus none g n) (g n))

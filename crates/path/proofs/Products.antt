-- The two parts of a product in 64 bits: they fit, and taking b d away is adding b (m - d).
use Rattle.std.proofs.Common.{◌≡◌, ℕ, ◌+◌, ◌-◌, ◌*◌, ◌%◌, ◌^◌, ◌<◌, ◌≤◌, ap, ◌∙◌, mul_comm, mul-le-mul_left, arith, lit<}
use native.Mathlib.Nat.{mul-sub}
use Rattle.std.proofs.lemmas.Nat.{mul-le}
use Rattle.algebra.proofs.Remainders.{difference_of_more}
use Rattle.path.specs.Paths.{modulus, opposite}

pub two_products_fit : (a b x y : ℕ) → a < 2 ^ 32 → b < 2 ^ 32 → x ≤ modulus → y ≤ modulus → a * x + b * y < 2 ^ 64
two_products_fit a b x y a_fits b_fits x_Fits y_fits =
    let one : a * x ≤ (2 ^ 32 - 1) * modulus = mul-le a x (2 ^ 32 - 1) modulus (omega arith) x_Fits in
    let other : b * y ≤ (2 ^ 32 - 1) * modulus = mul-le b y (2 ^ 32 - 1) modulus (omega arith) y_fits in
    omega arith

pub taken_as_added : (a b d : ℕ) → d ≤ modulus → (a + b * (modulus - d)) % modulus ≡ (a + opposite (b * d)) % modulus
taken_as_added a b d small =
    let most : b * d ≤ modulus * b = rw (mul_comm modulus b) (mul-le-mul_left b small) in
    ap (λ x. (a + x) % modulus) (mul-sub b modulus d ∙ ap (λ x. x - b * d) (mul_comm b modulus))
    ∙ difference_of_more modulus (lit< tt) a (b * d) b most

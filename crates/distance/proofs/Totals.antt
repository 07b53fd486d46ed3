-- Sums of integers: term by term, cut, regrouped, and their size.
use Rattle.std.proofs.Common.{◌≡◌, ℕ, zero, suc, ◌+◌, ◌*◌, ◌<◌, ◌≤◌, ℤ, pos, ◌+ℤ◌, ◌*ℤ◌, nat_abs, sym, refl, ap, ◌∙◌, add-zero, add-suc, add_comm, mul-zero, mul-suc, arith}
use lib.IntN.{*ℤ-zero}
use Rattle.algebra.proofs.Integers.{linear, mul_add}
use Rattle.algebra.proofs.Sizes.{nat_abs_add}
use Rattle.distance.specs.Sums.{total}

pub total_same : (f g : ℕ → ℤ) (n : ℕ) → ((t : ℕ) → t < n → f t ≡ g t) → total f n ≡ total g n
unfolding total
total_same f g zero h = refl
total_same f g (suc n) h = λ i. total_same f g n (λ t l. h t (omega arith)) i +ℤ h n (omega arith) i

pub total_add : (f g : ℕ → ℤ) (n : ℕ) → total (λ t. f t +ℤ g t) n ≡ total f n +ℤ total g n
unfolding total
total_add f g zero = refl
total_add f g (suc n) = let before = total_add f g n in omega (arith, linear)

pub total_scaled : (k : ℤ) (f : ℕ → ℤ) (n : ℕ) → total (λ t. k *ℤ f t) n ≡ k *ℤ total f n
unfolding total
total_scaled k f zero = sym (*ℤ-zero k)
total_scaled k f (suc n) = ap (λ z. z +ℤ k *ℤ f n) (total_scaled k f n) ∙ sym (mul_add k (total f n) (f n))

pub total_append : (f : ℕ → ℤ) (n k : ℕ) → total f (n + k) ≡ total f n +ℤ total (λ j. f (n + j)) k
unfolding total
total_append f n zero = let same = ap (total f) (add-zero n) in omega (arith, linear)
total_append f n (suc k) =
    let before = total_append f n k in
    let last = ap (total f) (add-suc n k) in
    omega (arith, linear)

total_none : (n : ℕ) → total (λ _. pos 0) n ≡ pos 0
unfolding total
total_none zero = refl
total_none (suc n) = let before = total_none n in omega (arith, linear)

-- by residues: every r-th term from q on, and then these sums
pub total_by_residues : (f : ℕ → ℤ) (r len : ℕ) → total (λ q. total (λ i. f (q + r * i)) len) r ≡ total f (r * len)
unfolding total
total_by_residues f r zero = total_none r ∙ sym (ap (total f) (mul-zero r))
total_by_residues f r (suc len) =
    total_add (λ q. total (λ i. f (q + r * i)) len) (λ q. f (q + r * len)) r
    ∙ (λ i. total_by_residues f r len i +ℤ total (λ q. f (add_comm q (r * len) i)) r)
    ∙ sym (ap (total f) (mul-suc r len) ∙ total_append f (r * len) r)

pub total_size : (f : ℕ → ℤ) (b n : ℕ) → ((t : ℕ) → t < n → nat_abs (f t) ≤ b) → nat_abs (total f n) ≤ n * b
unfolding total
total_size f b zero h = omega arith
total_size f b (suc n) h =
    let before = total_size f b n (λ t l. h t (omega arith)) in
    let last = h n (omega arith) in
    let sum = nat_abs_add (total f n) (f n) in
    omega arith

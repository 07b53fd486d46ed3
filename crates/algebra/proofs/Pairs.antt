-- Pairs (u, v) by a modulus m, with the product (u u' - v v', u v' + v u'): a commutative ring. Assumes nothing.
--
-- By the modulus, taking n away is adding j n with j = m - 1. Then both parts of a product are polynomials over the naturals,
-- and each law is an identity between polynomials, for any j.
use Rattle.std.proofs.Common.{◌≡◌, ℕ, ◌+◌, ◌-◌, ◌*◌, ◌%◌, ◌<◌, sym, refl, ap, ◌∙◌, mul_comm, add-mul, one-mul, arith}
use native.Mathlib.Nat.{mod-mod}
use Rattle.algebra.proofs.Remainders.{same_sum, same_product, difference_of_more}

-- the parts of the product of (a, b) and (c, d)
abbrev pub first : ℕ → ℕ → ℕ → ℕ → ℕ → ℕ
first m a b c d = (a * c + (m - (b * d) % m)) % m

abbrev pub second : ℕ → ℕ → ℕ → ℕ → ℕ → ℕ
second m a b c d = (a * d + b * c) % m

-- the identities
first_assoc_of : (j a b c d e f : ℕ) → (a * c + j * (b * d)) * e + j * ((a * d + b * c) * f) ≡ a * (c * e + j * (d * f)) + j * (b * (c * f + d * e))
first_assoc_of j a b c d e f = omega arith

second_assoc_of : (j a b c d e f : ℕ) → (a * c + j * (b * d)) * f + (a * d + b * c) * e ≡ a * (c * f + d * e) + b * (c * e + j * (d * f))
second_assoc_of j a b c d e f = omega arith

first_sum_of : (j a b c d e f : ℕ) → a * (c + e) + j * (b * (d + f)) ≡ (a * c + j * (b * d)) + (a * e + j * (b * f))
first_sum_of j a b c d e f = omega arith

second_sum_of : (a b c d e f : ℕ) → a * (d + f) + b * (c + e) ≡ (a * d + b * c) + (a * f + b * e)
second_sum_of a b c d e f = omega arith

module _ (m : ℕ) (h : 0 < m) where
  -- n taken away, as j n added
  taken : (a n : ℕ) → (a + (m - n % m)) % m ≡ (a + (m - 1) * n) % m
  taken a n =
      let m_is : m ≡ 1 + (m - 1) = omega arith in
      let split : m * n ≡ n + (m - 1) * n = ap (λ x. x * n) m_is ∙ add-mul 1 (m - 1) n ∙ ap (λ x. x + (m - 1) * n) (one-mul n) in
      let rest : m * n - n ≡ (m - 1) * n = omega arith in
      sym (difference_of_more m h a n n (omega arith)) ∙ ap (λ x. (a + x) % m) rest

  -- each part, from numbers that leave the same as those given
  first_by : (a b c d a' b' c' d' : ℕ) → a % m ≡ a' % m → b % m ≡ b' % m → c % m ≡ c' % m → d % m ≡ d' % m → first m a b c d ≡ (a' * c' + (m - 1) * (b' * d')) % m
  first_by a b c d a' b' c' d' p q r s =
      taken (a * c) (b * d)
      ∙ same_sum m (a * c) (a' * c') ((m - 1) * (b * d)) ((m - 1) * (b' * d')) (same_product m a a' c c' p r)
      (same_product m (m - 1) (m - 1) (b * d) (b' * d') refl (same_product m b b' d d' q s))

  second_by : (a b c d a' b' c' d' : ℕ) → a % m ≡ a' % m → b % m ≡ b' % m → c % m ≡ c' % m → d % m ≡ d' % m → second m a b c d ≡ (a' * d' + b' * c') % m
  second_by a b c d a' b' c' d' p q r s =
      same_sum m (a * d) (a' * d') (b * c) (b' * c') (same_product m a a' d d' p s) (same_product m b b' c c' q r)

  first_leaves : (a b c d : ℕ) → first m a b c d % m ≡ (a * c + (m - 1) * (b * d)) % m
  first_leaves a b c d = mod-mod (a * c + (m - (b * d) % m)) m ∙ taken (a * c) (b * d)

  second_leaves : (a b c d : ℕ) → second m a b c d % m ≡ (a * d + b * c) % m
  second_leaves a b c d = mod-mod (a * d + b * c) m

  pub first_assoc : (a b c d e f : ℕ) → first m (first m a b c d) (second m a b c d) e f ≡ first m a b (first m c d e f) (second m c d e f)
  first_assoc a b c d e f =
      first_by _ _ e f _ _ e f (first_leaves a b c d) (second_leaves a b c d) refl refl
      ∙ ap (λ x. x % m) (first_assoc_of (m - 1) a b c d e f)
      ∙ sym (first_by a b _ _ a b _ _ refl refl (first_leaves c d e f) (second_leaves c d e f))

  pub second_assoc : (a b c d e f : ℕ) → second m (first m a b c d) (second m a b c d) e f ≡ second m a b (first m c d e f) (second m c d e f)
  second_assoc a b c d e f =
      second_by _ _ e f _ _ e f (first_leaves a b c d) (second_leaves a b c d) refl refl
      ∙ ap (λ x. x % m) (second_assoc_of (m - 1) a b c d e f)
      ∙ sym (second_by a b _ _ a b _ _ refl refl (first_leaves c d e f) (second_leaves c d e f))

  pub first_sum : (a b c d e f : ℕ) → first m a b ((c + e) % m) ((d + f) % m) ≡ (first m a b c d + first m a b e f) % m
  first_sum a b c d e f =
      first_by a b _ _ a b (c + e) (d + f) refl refl (mod-mod (c + e) m) (mod-mod (d + f) m)
      ∙ ap (λ x. x % m) (first_sum_of (m - 1) a b c d e f)
      ∙ sym (same_sum m (first m a b c d) _ (first m a b e f) _ (first_leaves a b c d) (first_leaves a b e f))

  pub second_sum : (a b c d e f : ℕ) → second m a b ((c + e) % m) ((d + f) % m) ≡ (second m a b c d + second m a b e f) % m
  second_sum a b c d e f =
      second_by a b _ _ a b (c + e) (d + f) refl refl (mod-mod (c + e) m) (mod-mod (d + f) m)
      ∙ ap (λ x. x % m) (second_sum_of a b c d e f)
      ∙ sym (same_sum m (second m a b c d) _ (second m a b e f) _ (second_leaves a b c d) (second_leaves a b e f))

  pub first_comm : (a b c d : ℕ) → first m a b c d ≡ first m c d a b
  first_comm a b c d = simp (mul_comm a c, mul_comm b d)

  pub second_comm : (a b c d : ℕ) → second m a b c d ≡ second m c d a b
  second_comm a b c d = ap (λ x. x % m) (omega arith)

  -- times (c, 0)
  pub first_scaled : (a b c : ℕ) → first m a b c 0 ≡ (a * c) % m
  first_scaled a b c = taken (a * c) (b * 0) ∙ ap (λ x. x % m) (omega arith)

  pub second_scaled : (a b c : ℕ) → second m a b c 0 ≡ (b * c) % m
  second_scaled a b c = ap (λ x. x % m) (omega arith)

-- What sums, products and powers leave by a modulus m, any number. Assumes nothing.
use Rattle.std.proofs.Common.{◌≡◌, ℕ, suc, ◌+◌, ◌-◌, ◌*◌, ◌/◌, ◌%◌, ◌^◌, ◌<◌, ◌≤◌, Bool, cond, eqb, sym, ap, ◌∙◌, add-zero, add_assoc, mod-lt, mul_assoc, mul_comm, add-mul, pow-suc, mul-add, arith, eq-eqb}
use native.Mathlib.Nat.{mod-add-mod, add-mod-mod, div-add-mod, mul-add-mod_self_left, add-mod_right}

module _ (m : ℕ) where
  -- a multiple of m leaves nothing
  pub mod_of_more : (k a : ℕ) → (m * k + a) % m ≡ a % m
  mod_of_more k a = mul-add-mod_self_left m k a

  pub mod_mul_mod : (a b : ℕ) → (a % m * b) % m ≡ (a * b) % m
  mod_mul_mod a b =
      let split : a * b ≡ m * (a / m * b) + a % m * b =
      ap (λ x. x * b) (sym (div-add-mod a m)) ∙ add-mul (m * (a / m)) (a % m) b ∙ ap (λ x. x + a % m * b) (mul_assoc m (a / m) b) in
      sym (ap (λ x. x % m) split ∙ mod_of_more (a / m * b) (a % m * b))

  pub mul_mod_mod : (a b : ℕ) → (a * (b % m)) % m ≡ (a * b) % m
  mul_mod_mod a b = ap (λ x. x % m) (mul_comm a (b % m)) ∙ mod_mul_mod b a ∙ ap (λ x. x % m) (mul_comm b a)

  -- sums and products of numbers that leave the same leave the same
  pub same_sum : (a b c d : ℕ) → a % m ≡ b % m → c % m ≡ d % m → (a + c) % m ≡ (b + d) % m
  same_sum a b c d p q =
      sym (mod-add-mod a m c) ∙ ap (λ x. (x + c) % m) p ∙ mod-add-mod b m c
      ∙ sym (add-mod-mod b c m) ∙ ap (λ x. (b + x) % m) q ∙ add-mod-mod b d m

  pub same_product : (a b c d : ℕ) → a % m ≡ b % m → c % m ≡ d % m → (a * c) % m ≡ (b * d) % m
  same_product a b c d p q =
      sym (mod_mul_mod a c) ∙ ap (λ x. (x * c) % m) p ∙ mod_mul_mod b c
      ∙ sym (mul_mod_mod b c) ∙ ap (λ x. (b * x) % m) q ∙ mul_mod_mod b d

  pub sum_assoc : (a b c : ℕ) → ((a + b) % m + c) % m ≡ (a + (b + c) % m) % m
  sum_assoc a b c = simp (mod-add-mod, add-mod-mod, add_assoc)

  pub product_assoc : (a b c : ℕ) → ((a * b) % m * c) % m ≡ (a * ((b * c) % m)) % m
  product_assoc a b c = simp (mod_mul_mod, mul_mod_mod, mul_assoc)

  pub product_sum : (a b c : ℕ) → (a * ((b + c) % m)) % m ≡ ((a * b) % m + (a * c) % m) % m
  product_sum a b c = simp (mul_mod_mod, mod-add-mod, add-mod-mod, mul-add)

  pub power_more : (w e : ℕ) → w ^ suc e % m ≡ (w ^ e % m * (w % m)) % m
  power_more w e = simp (mod_mul_mod, mul_mod_mod, pow-suc)

  -- what stands for -b: b and it leave nothing
  pub difference_sum : 0 < m → (a b : ℕ) → ((a + (m - b % m)) % m + b) % m ≡ a % m
  difference_sum h a b =
      let low : b % m < m = mod-lt b h in
      let gone : a + (m - b % m) + b % m ≡ a + m = omega arith in
      mod-add-mod (a + (m - b % m)) m b ∙ sym (add-mod-mod (a + (m - b % m)) b m) ∙ ap (λ x. x % m) gone ∙ add-mod_right a m

  -- .. and so does a multiple of m from which b is taken
  pub difference_of_more : 0 < m → (a b k : ℕ) → b ≤ m * k → (a + (m * k - b)) % m ≡ (a + (m - b % m)) % m
  difference_of_more h a b k most =
      let low : b % m < m = mod-lt b h in
      let whole : m * (b / m) + b % m ≡ b = div-add-mod b m in
      let both : m * (b / m + 1) + (a + (m * k - b)) ≡ m * k + (a + (m - b % m)) = omega arith in
      sym (mod_of_more (b / m + 1) (a + (m * k - b))) ∙ ap (λ x. x % m) both ∙ mod_of_more k (a + (m - b % m))

  -- n's inverse from the inverse c of a number s that n divides
  pub inverse_of_part : (s c n : ℕ) → (s * c) % m ≡ 1 % m → s % n ≡ 0 → (n * cond (eqb (s % n) 0) ((s / n * c) % m) 0) % m ≡ 1 % m
  inverse_of_part s c n one z =
      let whole : n * (s / n) ≡ s = sym (add-zero (n * (s / n))) ∙ ap (λ x. n * (s / n) + x) (sym z) ∙ div-add-mod s n in
      ap (λ (b : Bool). (n * cond b ((s / n * c) % m) 0) % m) (eq-eqb (s % n) 0 z) ∙ mul_mod_mod n (s / n * c)
      ∙ ap (λ x. x % m) (sym (mul_assoc n (s / n) c) ∙ ap (λ x. x * c) whole) ∙ one

-- Remainders of products, and of places round a circle of n.
use mathlib.Core.Path.{◌≡◌, ap, sym, ◌∙◌, ◌≡⟨◌⟩◌, ◌∎}
use Prim.Native.Nat.{ℕ, ◌+◌, ◌-◌, ◌*◌, ◌/◌, ◌%◌, ◌≤◌}
use native.Mathlib.Nat.{mul_comm, div-add-mod, mul-add-mod_self_left, add-mul-mod_self_left, add-mod-mod, mod-add-mod, add-mod_right}
use native.Mathlib.Omega.{arith}

factor_apart : (s n c r : ℕ) → s * (n * c + r) ≡ n * (s * c) + s * r
factor_apart s n c r = omega arith

steps_apart : (n c r u : ℕ) → (n * c + r) * u ≡ (n * u) * c + r * u
steps_apart n c r u = omega arith

-- a factor may be replaced by its remainder
pub mul_remainder : (s x n : ℕ) → (s * (x % n)) % n ≡ (s * x) % n
mul_remainder s x n =
    (s * (x % n)) % n ≡⟨ sym (mul-add-mod_self_left n (s * (x / n)) (s * (x % n))) ⟩
    (n * (s * (x / n)) + s * (x % n)) % n ≡⟨ ap (λ y. y % n) (sym (factor_apart s n (x / n) (x % n))) ⟩
    (s * (n * (x / n) + x % n)) % n ≡⟨ ap (λ y. (s * y) % n) (div-add-mod x n) ⟩
    (s * x) % n ∎

pub mul_congruent : (x y k n : ℕ) → x % n ≡ y % n → (x * k) % n ≡ (y * k) % n
mul_congruent x y k n e =
    (x * k) % n ≡⟨ ap (λ w. w % n) (mul_comm x k) ∙ sym (mul_remainder k x n) ⟩
    (k * (x % n)) % n ≡⟨ ap (λ w. (k * w) % n) e ⟩
    (k * (y % n)) % n ≡⟨ mul_remainder k y n ∙ ap (λ w. w % n) (mul_comm k y) ⟩
    (y * k) % n ∎

-- x steps of u round a circle of n such steps end where x % n of them do
pub steps_round : (x n u : ℕ) → (x * u) % (n * u) ≡ ((x % n) * u) % (n * u)
steps_round x n u =
    (x * u) % (n * u) ≡⟨ ap (λ y. (y * u) % (n * u)) (sym (div-add-mod x n)) ⟩
    ((n * (x / n) + x % n) * u) % (n * u) ≡⟨ ap (λ y. y % (n * u)) (steps_apart n (x / n) (x % n) u) ⟩
    ((n * u) * (x / n) + (x % n) * u) % (n * u) ≡⟨ mul-add-mod_self_left (n * u) (x / n) ((x % n) * u) ⟩
    ((x % n) * u) % (n * u) ∎

-- s places back from t and s on again is t
pub back_and_on : (s t n : ℕ) → s ≤ n → (s + (t + (n - s)) % n) % n ≡ t % n
back_and_on s t n h =
    let round : s + (t + (n - s)) ≡ t + n = omega arith in
    add-mod-mod s (t + (n - s)) n ∙ ap (λ x. x % n) round ∙ add-mod_right t n

-- h places on from t and h back again is t
pub on_and_back : (h t n : ℕ) → h ≤ n → ((t + h) % n + (n - h)) % n ≡ t % n
on_and_back h t n l =
    let round : t + h + (n - h) ≡ t + n = omega arith in
    mod-add-mod (t + h) n (n - h) ∙ ap (λ x. x % n) round ∙ add-mod_right t n

mirrored_factors : (p q t k : ℕ) → p + t ≡ q + k → p * q + (p + t) * k ≡ (p + t) * p + t * k
mirrored_factors p q t k same =
    p * q + (p + t) * k ≡⟨ omega arith ⟩
    p * (q + k) + t * k ≡⟨ ap (λ x. p * x + t * k) (sym same) ⟩
    p * (p + t) + t * k ≡⟨ omega arith ⟩
    (p + t) * p + t * k ∎

-- two factors counted back from n have the product of the two counted up
pub mul_mirrored : (t k n : ℕ) → t ≤ n → k ≤ n → ((n - t) * (n - k)) % n ≡ (t * k) % n
mul_mirrored t k n h l =
    let p = n - t in
    let q = n - k in
    let all : p + t ≡ n = omega arith in
    let same : p + t ≡ q + k = omega arith in
    (p * q) % n ≡⟨ sym (add-mul-mod_self_left (p * q) n k) ⟩
    (p * q + n * k) % n ≡⟨ ap (λ x. x % n) (ap (λ x. p * q + x * k) (sym all) ∙ mirrored_factors p q t k same ∙ ap (λ x. x * p + t * k) all) ⟩
    (n * p + t * k) % n ≡⟨ mul-add-mod_self_left n p (t * k) ⟩
    (t * k) % n ∎

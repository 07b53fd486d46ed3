-- Computed tests: a fact of each number below n by one test of them all. Assumes nothing.
use Rattle.std.proofs.Common.{◌≡◌, ℕ, zero, suc, ◌<◌, Bool, true, false, T, ◌⊎◌, sym, subst, ⊎_elim, arith}

abbrev pub both : Bool → Bool → Bool
both true b = b
both false b = false

pub both_first : (a b : Bool) → T (both a b) → T a
both_first true b t = tt
both_first false b t = t

pub both_second : (a b : Bool) → T (both a b) → T b
both_second true b t = t
both_second false b t = absurd t

abbrev pub implies : Bool → Bool → Bool
implies true b = b
implies false b = true

pub implies_second : (a b : Bool) → T (implies a b) → T a → T b
implies_second true b t h = t
implies_second false b t h = absurd h

-- the test passes at each number below n
abbrev pub below : ℕ → (ℕ → Bool) → Bool
below zero test = true
below (suc n) test = both (test n) (below n test)

below_or_last : (k n : ℕ) → k < suc n → (k < n) ⊎ (k ≡ n)
below_or_last k n h = grind arith

pub below_at : (n : ℕ) (test : ℕ → Bool) → T (below n test) → (k : ℕ) → k < n → T (test k)
below_at zero test t k h = absurd (omega arith)
below_at (suc n) test t k h =
    ⊎_elim
    (λ l. below_at n test (both_second (test n) (below n test) t) k l)
    (λ e. subst (λ (m : ℕ). T (test m)) (sym e) (both_first (test n) (below n test) t))
    (below_or_last k n h)

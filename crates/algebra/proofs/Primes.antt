-- The primes that divide a number are those of a short list, by one test of all that divide it. Assumes nothing.
use Rattle.std.proofs.Common.{◌≡◌, ℕ, suc, ◌%◌, ◌<◌, Bool, true, false, cond, T, eqb, ltb, ◌⊎◌, List, [], ◌∷◌, sym, subst, inl, inr, ⊎_elim, mod-eq_of_lt, arith, eqb→eq, ltb→lt}
use Rattle.std.specs.List.{AllByRecursion}
use Rattle.std.proofs.lemmas.Bool.Decides.{nat_tests}
use Rattle.algebra.proofs.Ranges.{both, both_first, both_second, below, below_at}

-- some number of the list, above 1, divides q
abbrev some_divides : List ℕ → ℕ → Bool
some_divides [] q = false
some_divides (r ∷ rs) q = cond (both (ltb 1 r) (eqb (q % r) 0)) true (some_divides rs q)

-- where q divides s and is not 1, some number of the list divides q
abbrev pub met : ℕ → List ℕ → ℕ → Bool
met s rs q = cond (eqb (s % q) 0) (cond (eqb q 1) true (some_divides rs q)) true

-- q has no divisor between 1 and itself
abbrev Prime : ℕ → Type 0
Prime q = (1 < q) × ((d : ℕ) → 1 < d → d < q → q % d ≡ 0 → ⊥)

three_ways : (r q : ℕ) → (r < q) ⊎ ((q < r) ⊎ (q ≡ r))
three_ways r q = grind arith

divisor_is : (q r : ℕ) → Prime q → 1 < r → q % r ≡ 0 → q ≡ r
divisor_is q r prime more z =
    ⊎_elim
    (λ (l : r < q). absurd (prime.1 r more l z))
    (⊎_elim (λ (g : q < r). let same : q % r ≡ q = mod-eq_of_lt g in omega (arith, prime.0)) (λ (e : q ≡ r). e))
    (three_ways r q)

either : (b c : Bool) → T (cond b true c) → T b ⊎ T c
either true c t = inl tt
either false c t = inr t

of_listed : (P : ℕ → Type 0) (rs : List ℕ) (q : ℕ) → Prime q → AllByRecursion P rs → T (some_divides rs q) → P q
of_listed P [] q prime all t = absurd t
of_listed P (r ∷ rs) q prime all t =
    ⊎_elim
    (λ (y : T (both (ltb 1 r) (eqb (q % r) 0))).
    subst P (sym (divisor_is q r prime (ltb→lt _ _ (both_first _ _ y)) (eqb→eq _ _ (both_second _ _ y)))) all.0)
    (of_listed P rs q prime all.1)
    (either _ _ t)

-- what the test says of one q
some_if_met : (s : ℕ) (rs : List ℕ) (q : ℕ) → 1 < q → s % q ≡ 0 → T (met s rs q) → T (some_divides rs q)
some_if_met s rs q big z t =
    let divides : eqb (s % q) 0 ≡ true = grind (arith, nat_tests) in
    let more : eqb q 1 ≡ false = grind (arith, nat_tests) in
    rw more at (rw divides at t)

divisor_below : (s q : ℕ) → 0 < s → s % q ≡ 0 → q < suc s
divisor_below s q h z =
    ⊎_elim (λ (g : s < q). let same : s % q ≡ s = mod-eq_of_lt g in omega arith) (λ (l : q < suc s). l) (sides s q)
  where
    sides : (s q : ℕ) → (s < q) ⊎ (q < suc s)
    sides s q = grind arith

-- a fact of each number of the list is a fact of each prime that divides s
pub at_primes : (s : ℕ) (rs : List ℕ) → 0 < s → T (below (suc s) (met s rs)) → (P : ℕ → Type 0) → AllByRecursion P rs → (q : ℕ) → Prime q → s % q ≡ 0 → P q
at_primes s rs h tested P all q prime z =
    of_listed P rs q prime all (some_if_met s rs q prime.0 z (below_at (suc s) (met s rs) tested q (divisor_below s q h z)))

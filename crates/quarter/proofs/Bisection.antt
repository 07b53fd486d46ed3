-- The rule of bisection, computed over the whole quarter.
use Rattle.std.proofs.Common.{◌≡◌, ℕ, zero, suc, ◌+◌, ◌-◌, ◌*◌, ◌/◌, ◌^◌, ◌<◌, ◌≤◌, Bool, true, false, cond, T, eqb, ltb, leb, List, [], ◌∷◌, ℤ, pos, negsuc, ◌+ℤ◌, nat_abs, sym, ap, mul-le-mul_right, le-div_iff_mul-le, arith, eqb→eq, ltb→lt, lt→ltb, leb→le}
use Rattle.std.specs.List.{AllByRecursion}
use Rattle.algebra.proofs.Ranges.{both, both_first, both_second, implies, implies_second, below, below_at}
use Rattle.quarter.specs.Table.{quarter_table}
use Rattle.quarter.specs.Entries.{S, quarter, entry}
use Rattle.quarter.specs.Bisection.{Bisects, BisectsBy, steps}

-- the root of n: r with its lower k bits added
root : ℕ → ℕ → ℕ → ℕ
root zero r n = r
root (suc k) r n = root k (cond (leb ((r + 2 ^ k) * (r + 2 ^ k)) n) (r + 2 ^ k) r) n

is : ℤ → ℕ → Bool
is (pos n) m = eqb n m
is (negsuc n) m = false

is_pos : (z : ℤ) (m : ℕ) → T (is z m) → z ≡ pos m
unfolding is
is_pos (pos n) m t = ap pos (eqb→eq n m t)
is_pos (negsuc n) m t = absurd t

-- the test of entry j for sums a, b and a root r
right : ℕ → ℕ → ℕ → ℕ → ℕ → Bool
right h j a b r =
    both (is ((entry (j - h)).0 +ℤ (entry (j + h)).0) a)
    (both (is ((entry (j - h)).1 +ℤ (entry (j + h)).1) b)
    (both (leb (r * r) (a * a + b * b))
    (both (ltb (a * a + b * b) ((r + 1) * (r + 1)))
    (both (is (entry j).0 ((2 * S * a + r) / (2 * r)))
    (is (entry j).1 ((2 * S * b + r) / (2 * r)))))))

right_bisects : (h j a b r : ℕ) → T (right h j a b r) → Bisects h j
unfolding right
right_bisects h j a b r t =
    let t1 = both_second _ _ t in
    let t2 = both_second _ _ t1 in
    let t3 = both_second _ _ t2 in
    let t4 = both_second _ _ t3 in
    record {
      A = a;
      B = b;
      R = r;
      A_is = sym (is_pos _ a (both_first _ _ t));
      B_is = sym (is_pos _ b (both_first _ _ t1));
      R_is = record { low = leb→le _ _ (both_first _ _ t2); high = ltb→lt _ _ (both_first _ _ t3) };
      c_is = is_pos _ _ (both_first _ _ t4);
      s_is = is_pos _ _ (both_second _ _ t4);
    }

sum_c : ℕ → ℕ → ℕ
sum_c h j = nat_abs ((entry (j - h)).0 +ℤ (entry (j + h)).0)

sum_s : ℕ → ℕ → ℕ
sum_s h j = nat_abs ((entry (j - h)).1 +ℤ (entry (j + h)).1)

-- every A² + B² is below 2^64
root_of : ℕ → ℕ → ℕ
root_of a b = root 32 0 (a * a + b * b)

test : ℕ → ℕ → Bool
test h j = right h j (sum_c h j) (sum_s h j) (root_of (sum_c h j) (sum_s h j))

odd_test : ℕ → ℕ → Bool
odd_test h m = implies (ltb ((2 * m + 1) * h) quarter) (test h ((2 * m + 1) * h))

-- the tests of a step h
by : ℕ → Bool
by h = both (ltb 0 h) (below (quarter / h) (odd_test h))

few : (h m : ℕ) → 0 < h → (2 * m + 1) * h < quarter → m < quarter / h
few h m p l = (le-div_iff_mul-le p).1 (let g : (m + 1) * h ≤ (2 * m + 1) * h = mul-le-mul_right h (omega arith) in omega arith)

by_bisects : (h : ℕ) → T (by h) → BisectsBy h
unfolding by odd_test test
by_bisects h t m l =
    let positive = ltb→lt 0 h (both_first (ltb 0 h) _ t) in
    let passed = below_at (quarter / h) (odd_test h) (both_second (ltb 0 h) _ t) m (few h m positive l) in
    right_bisects h ((2 * m + 1) * h) _ _ _ (implies_second _ _ passed (lt→ltb _ _ l))

by_each : List ℕ → Bool
by_each [] = true
by_each (h ∷ hs) = both (by h) (by_each hs)

each_bisects : (hs : List ℕ) → T (by_each hs) → AllByRecursion BisectsBy hs
unfolding by_each
each_bisects [] t = tt
each_bisects (h ∷ hs) t = (by_bisects h (both_first (by h) _ t), each_bisects hs (both_second (by h) _ t))

steps_pass : T (by_each steps)
unfolding by_each by odd_test test sum_c sum_s root_of root right is quarter_table
steps_pass = tt

pub table_bisects : AllByRecursion BisectsBy steps
table_bisects = each_bisects steps steps_pass

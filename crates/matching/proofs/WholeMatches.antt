-- The lagged sums of the path arithmetic, read as signed, are those over the whole numbers: these are within half the modulus.
use Rattle.std.proofs.Common.{◌≡◌, ℕ, suc, ◌+◌, ◌-◌, ◌*◌, ◌%◌, ◌<◌, ◌≤◌, List, map, length, get_or, ℤ, pos, negsuc, ◌+ℤ◌, ◌-ℤ◌, ◌*ℤ◌, neg_ℤ, nat_abs, refl, ap, ◌∙◌, add-zero, mod-lt, arith, lit<}
use lib.IntN.{+ℤ_idl}
use Rattle.std.specs.List.{range_with_len, AllByRecursion}
use Rattle.std.proofs.lemmas.Nat.{mul-le}
use Rattle.std.proofs.lemmas.List.FromFn.{length-map-range_with_len, get_or-map-range_with_len, fill_by_all}
use Rattle.std.proofs.lemmas.List.{get_or-map, length-map}
use Rattle.std.proofs.lemmas.Int.{ints}
use Rattle.algebra.proofs.Sizes.{nat_abs_neg, nat_abs_mul}
use Rattle.path.specs.declared.Path.{Path}
use Rattle.path.specs.Paths.{modulus, signed, sampled, paths}
use Rattle.stroke.specs.Contents.{limit, most_samples, Near}
use Rattle.stroke.proofs.Indexed.{all_at}
use Rattle.matching.specs.Lags.{plus, times, conj, origin, meeting, match_at, matches, best_first}
use Rattle.matching.specs.Readings.{half, lag_term, lagged, read_sum, entered, entered_conj}
use Rattle.matching.proofs.Standing.{Stands, stands_reduced, stands_sum, stands_product, stands_difference, read_signed}
use Rattle.matching.proofs.Best.{best_same}
use Rattle.matching.proofs.Totals.{total_stands, total_small}

-- ---- an element stands for a pair of whole numbers
abbrev Means : Path → ℤ × ℤ → Type 0
Means x z = Stands modulus x.u z.0 × Stands modulus x.v z.1

above : 0 < modulus
above = lit< tt

sum_means : (x y : Path) (z w : ℤ × ℤ) → Means x z → Means y w → Means (paths.sum x y) (plus z w)
sum_means x y z w p q = (
  stands_reduced modulus above (x.u + y.u) (z.0 +ℤ w.0) (stands_sum modulus above x.u y.u z.0 w.0 p.0 q.0),
  stands_reduced modulus above (x.v + y.v) (z.1 +ℤ w.1) (stands_sum modulus above x.v y.v z.1 w.1 p.1 q.1),
)

product_means : (x y : Path) (z w : ℤ × ℤ) → Means x z → Means y w → Means (paths.product x y) (times z w)
product_means x y z w p q =
    let uu = stands_product modulus above x.u y.u z.0 w.0 p.0 q.0 in
    let vv = stands_product modulus above x.v y.v z.1 w.1 p.1 q.1 in
    let uv = stands_product modulus above x.u y.v z.0 w.1 p.0 q.1 in
    let vu = stands_product modulus above x.v y.u z.1 w.0 p.1 q.0 in (
      stands_reduced modulus above _ _ (stands_difference modulus above (x.u * y.u) (x.v * y.v) (z.0 *ℤ w.0) (z.1 *ℤ w.1) uu vv),
      stands_reduced modulus above _ _ (stands_sum modulus above (x.u * y.v) (x.v * y.u) (z.0 *ℤ w.1) (z.1 *ℤ w.0) uv vu),
    )

signed_stands : (z : ℤ) → nat_abs z ≤ limit → Stands modulus (signed z) z
signed_stands (pos n) near = ap (λ k. k % modulus) (add-zero n)
signed_stands (negsuc n) near = let whole : modulus - suc n + suc n ≡ modulus = omega arith in ap (λ k. k % modulus) whole

sampled_means : (x y : ℤ) → nat_abs x ≤ limit → nat_abs y ≤ limit → Means (sampled x y) (x, y)
sampled_means x y p q = (signed_stands x p, signed_stands y q)

-- ---- the sizes of pairs
abbrev most : ℕ
most = 2 * (limit * limit)

product_small : (x y : ℤ) → nat_abs x ≤ limit → nat_abs y ≤ limit → nat_abs (x *ℤ y) ≤ limit * limit
product_small x y p q = rw (nat_abs_mul x y) (mul-le (nat_abs x) (nat_abs y) limit limit p q)

conj_near : (z : ℤ × ℤ) → Near z → Near (conj z)
conj_near z h = (h.0, rw (nat_abs_neg z.1) h.1)

times_small : (z w : ℤ × ℤ) → Near z → Near w → (nat_abs (times z w).0 ≤ most) × (nat_abs (times z w).1 ≤ most)
times_small z w p q =
    let uu = product_small z.0 w.0 p.0 q.0 in
    let vv = product_small z.1 w.1 p.1 q.1 in
    let uv = product_small z.0 w.1 p.0 q.1 in
    let vu = product_small z.1 w.0 p.1 q.0 in
    (differ (z.0 *ℤ w.0) (z.1 *ℤ w.1) uu vv, join (z.0 *ℤ w.1) (z.1 *ℤ w.0) uv vu)
  where
    differ : (x y : ℤ) → nat_abs x ≤ limit * limit → nat_abs y ≤ limit * limit → nat_abs (x -ℤ y) ≤ most
    differ x y a b = omega (arith, ints)

    join : (x y : ℤ) → nat_abs x ≤ limit * limit → nat_abs y ≤ limit * limit → nat_abs (x +ℤ y) ≤ most
    join x y a b = omega (arith, ints)

nat_abs_sum : (x y : ℤ) → nat_abs (x +ℤ y) ≤ nat_abs x + nat_abs y
nat_abs_sum x y = omega (arith, ints)

neutral : (z : ℤ × ℤ) → plus origin z ≡ z
neutral (x, y) = ap (λ u. (u, pos 0 +ℤ y)) (+ℤ_idl x) ∙ ap (λ v. (x, v)) (+ℤ_idl y)

same_pair : {x y z w : ℤ} → x ≡ z → y ≡ w → ◌≡◌ {A = ℤ × ℤ} (x, y) (z, w)
same_pair p q = cc

-- ---- two paths within limits, of one length
module _ (a b : List (ℤ × ℤ)) (same : length b ≡ length a) (few : length a ≤ most_samples) (near_a : AllByRecursion Near a) (near_b : AllByRecursion Near b) where
  near : (xs : List (ℤ × ℤ)) → AllByRecursion Near xs → (t : ℕ) → Near (get_or xs t origin)
  near xs h = all_at Near xs origin (omega arith, omega arith) h

  small : (lag : ℕ) → (nat_abs (match_at a b lag).0 ≤ half) × (nat_abs (match_at a b lag).1 ≤ half)
  unfolding match_at
  small lag =
      let each : (t : ℕ) → (nat_abs (meeting a b lag t).0 ≤ most) × (nat_abs (meeting a b lag t).1 ≤ most) =
      λ t. times_small (conj (get_or a t origin)) (get_or b ((t + lag) % length a) origin) (conj_near (get_or a t origin) (near a near_a t)) (near b near_b ((t + lag) % length a)) in
      let first = total_small plus origin (λ z. nat_abs z.0) refl (λ z w. nat_abs_sum z.0 w.0) most (meeting a b lag) (length a) (λ t h. (each t).0) in
      let second = total_small plus origin (λ z. nat_abs z.1) refl (λ z w. nat_abs_sum z.1 w.1) most (meeting a b lag) (length a) (λ t h. (each t).1) in
      (omega arith, omega arith)

  term_means : (lag t : ℕ) → t < length a → Means (lag_term paths (entered_conj a) (entered b) lag t) (meeting a b lag t)
  term_means lag t h =
      let at = (t + lag) % length a in
      let x = get_or a t origin in
      let y = get_or b at origin in
      let there : at < length b = omega (arith, mod-lt (t + lag) (let some : 0 < length a = omega arith in some)) in
      let left : get_or (entered_conj a) t paths.zero ≡ sampled x.0 (neg_ℤ x.1) = get_or-map (λ p. sampled p.0 (neg_ℤ p.1)) a t origin paths.zero h in
      let right : get_or (entered b) at paths.zero ≡ sampled y.0 y.1 = get_or-map (λ p. sampled p.0 p.1) b at origin paths.zero there in
      let p = conj_near x (near a near_a t) in
      let q = near b near_b at in
      let means = product_means (sampled x.0 (neg_ℤ x.1)) (sampled y.0 y.1) (conj x) y (sampled_means x.0 (neg_ℤ x.1) p.0 p.1) (sampled_means y.0 y.1 q.0 q.1) in
      rw (length-map a (λ p. sampled p.0 (neg_ℤ p.1)), left, right) means

  sum_means_match : (lag : ℕ) → 0 < length a → Means (lagged paths (entered_conj a) (entered b) lag) (match_at a b lag)
  unfolding lagged match_at
  sum_means_match lag some =
      rw (length-map a (λ p. sampled p.0 (neg_ℤ p.1)))
      (total_stands paths plus origin Means sum_means neutral (lag_term paths (entered_conj a) (entered b) lag) (meeting a b lag) (length a) some (term_means lag))

  pub read_match : (lag : ℕ) → 0 < length a → read_sum (entered_conj a) (entered b) lag ≡ match_at a b lag
  unfolding read_sum
  read_match lag some =
      let r = lagged paths (entered_conj a) (entered b) lag in
      let means = sum_means_match lag some in
      let near = small lag in
      same_pair
      (read_signed modulus half (r.u % modulus) (match_at a b lag).0 refl (mod-lt r.u above) near.0 (stands_reduced modulus above r.u (match_at a b lag).0 means.0))
      (read_signed modulus half (r.v % modulus) (match_at a b lag).1 refl (mod-lt r.v above) near.1 (stands_reduced modulus above r.v (match_at a b lag).1 means.1))

  -- and so is the list of them
  module _ (xs ys : List Path) (some : 0 < length a) (left : xs ≡ entered_conj a) (right : ys ≡ entered b) where
    reads : (lag : ℕ) → read_sum xs ys lag ≡ match_at a b lag
    reads lag = rw (left, right) (read_match lag some)

    long : length xs ≡ length a
    long = ap length left ∙ length-map a (λ p. sampled p.0 (neg_ℤ p.1))

    pub all_matches : map (read_sum xs ys) (range_with_len 0 (length xs)) ≡ matches a b
    all_matches =
        ap (λ n. map (read_sum xs ys) (range_with_len 0 n)) long
        ∙ fill_by_all (match_at a b) (map (read_sum xs ys) (range_with_len 0 (length a))) (length a) origin (length-map-range_with_len (read_sum xs ys) 0 (length a))
        (λ k h. get_or-map-range_with_len (read_sum xs ys) 0 (length a) k k origin h (omega arith) ∙ reads k)

-- the best of a list of matches
pub best_listed : (a b out : List (ℤ × ℤ)) → out ≡ matches a b → best_first (λ lag. get_or out lag origin) (length out) ≡ best_first (match_at a b) (length a)
best_listed a b out is =
    ap (best_first (λ lag. get_or out lag origin)) (ap length is ∙ length-map-range_with_len (match_at a b) 0 (length a))
    ∙ best_same (λ k. (get_or out k origin).0) (λ k. (match_at a b k).0) (length a)
    (λ k h. ap (λ o. (get_or o k origin).0) is ∙ ap (λ z. z.0) (get_or-map-range_with_len (match_at a b) 0 (length a) k k origin h (omega arith)))

-- A plan with one more radix at its end.
use Rattle.std.proofs.Common.{◌≡◌, ℕ, zero, suc, ◌+◌, ◌*◌, ◌^◌, ◌<◌, ◌≤◌, ◌⊎◌, List, [], ◌∷◌, ◌++◌, length, take, set, sym, ap, ◌∙◌, ⊎_elim, mul_assoc, arith, pow_mono}
use native.Mathlib.Nat.{pow-succ'}
use Rattle.std.proofs.lemmas.List.{length-take-le, take_more_set}
use Rattle.std.proofs.lemmas.Nat.{mul-le}
use Rattle.plan.specs.Radices.{size, most_radices, least_radix, largest_radix, largest_size, Each}
use Rattle.plan.specs.Planned.{radices_of}
use Rattle.plan.specs.declared.validated.Plan.{Plan}
use Rattle.plan.proofs.Sizes.{each_tail}

pub size_push : (rs : List ℕ) (r : ℕ) → size (rs ++ r ∷ []) ≡ size rs * r
size_push [] r = omega arith
size_push (x ∷ rs) r = ap (λ n. x * n) (size_push rs r) ∙ sym (mul_assoc x (size rs) r)

pub each_push : (rs : List ℕ) (r : ℕ) → Each rs → least_radix ≤ r → r ≤ largest_radix → Each (rs ++ r ∷ [])
each_push [] r each low high zero h = (low, high)
each_push [] r each low high (suc i) h = absurd (omega arith)
each_push (x ∷ rs) r each low high zero h = each 0 (omega arith)
each_push (x ∷ rs) r each low high (suc i) h = each_push rs r (each_tail x rs each) low high i (omega arith)

-- every radix doubles the size at least
pub pow_le_size : (rs : List ℕ) → Each rs → 2 ^ length rs ≤ size rs
pow_le_size [] each = omega arith
pow_le_size (r ∷ rs) each =
    let rest = pow_le_size rs (each_tail r rs each) in
    let radix = each 0 (omega arith) in
    omega (arith, pow-succ' 2 (length rs), mul-le 2 (2 ^ length rs) r (size rs) radix.0 rest)

-- so a product that is small enough leaves room for one more
pub room_for_one : (rs : List ℕ) (r : ℕ) → Each rs → least_radix ≤ r → size rs * r ≤ largest_size → length rs < most_radices
room_for_one rs r each low small = ⊎_elim (λ h. h) (λ (h : most_radices ≤ length rs). absurd (full h)) (sides (length rs))
  where
    sides : (n : ℕ) → (n < most_radices) ⊎ (most_radices ≤ n)
    sides n = grind arith

    full : most_radices ≤ length rs → ⊥
    full h = omega (arith, pow_mono h, pow_le_size rs each, mul-le (size rs) 2 (size rs) r (omega arith) low)

-- the same of a plan that was checked
module _ (p : Plan) (r : ℕ) (long : length p.radices ≡ most_radices) (low : least_radix ≤ r) (small : size (radices_of p) * r ≤ largest_size) where
  pub count_below : p.count < most_radices
  count_below =
      let few = p.few in
      let is : length (radices_of p) ≡ p.count = length-take-le p.count p.radices (omega arith) in
      let room = room_for_one (radices_of p) r p.each low small in
      omega arith

  pub radices_push : take (p.count + 1) (set p.radices p.count r) ≡ radices_of p ++ r ∷ []
  radices_push = take_more_set p.radices p.count r (let room = count_below in omega arith)

  pub len_push : p.samples * r ≡ size (radices_of p ++ r ∷ [])
  len_push = ap (λ n. n * r) p.whole ∙ sym (size_push (radices_of p) r)

  pub len_small : p.samples * r ≤ largest_size
  len_small = let whole = ap (λ n. n * r) p.whole in omega arith

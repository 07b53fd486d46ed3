-- One turn: seen along any direction, it moves the pair to the direction of the sum, but for the rounding and the defect.
use Rattle.std.proofs.Common.{◌≡◌, ℕ, ◌+◌, ◌*◌, ◌/◌, ◌≤◌, [], ◌∷◌, ℤ, pos, ◌+ℤ◌, ◌-ℤ◌, ◌*ℤ◌, nat_abs, sym, ap, ◌∙◌, arith}
use borrow.Author.Differences.{product_is}
use Rattle.std.proofs.lemmas.Nat.{mul-le}
use Rattle.std.proofs.lemmas.Int.{ints}
use Rattle.algebra.proofs.Sizes.{nat_abs_mul, nat_abs_add, nat_abs_mul_add}
use Rattle.algebra.proofs.Ring.{num, var, ◌⊕◌, ◌⊖◌, ◌⊗◌, ring}
use Rattle.quarter.specs.Entries.{S, Short}
use Rattle.fixed.specs.declared.Fixed.{Fixed}
use Rattle.fixed.specs.Rounding.{Nearest}
use Rattle.distance.proofs.Defects.{D, defect_c, defect_s, Close}

-- a seen along the direction d, in units times S
abbrev pub along : ℤ × ℤ → Fixed → ℤ
along d a = a.x *ℤ d.0 +ℤ a.y *ℤ d.1

-- |x| + |y|
abbrev pub reach : Fixed → ℕ
reach a = nat_abs a.x + nat_abs a.y

-- b is a turned by d, each part rounded to a nearest whole number
pub record Turned (d : ℤ × ℤ) (a b : Fixed) : Type 0 where
  pub first : Nearest (a.x *ℤ d.0 +ℤ a.y *ℤ d.1) b.x
  pub second : Nearest (a.y *ℤ d.0 -ℤ a.x *ℤ d.1) b.y

-- what rounding made of z to S r
abbrev rest : ℤ → ℤ → ℤ
rest z r = pos S *ℤ r -ℤ z

rest_small : (z r : ℤ) → Nearest z r → nat_abs (rest z r) ≤ S / 2
rest_small z r n = let low = n.low in let high = n.high in omega (arith, ints, product_is)

-- the error of a turn in parts: the defects, and what the rounding added
parted : (a b : Fixed) (p q r : ℤ × ℤ) →
    pos S *ℤ (along p b -ℤ along r a)
    ≡ (a.x *ℤ defect_c p q r +ℤ a.y *ℤ defect_s p q r)
    +ℤ (rest (a.x *ℤ q.0 +ℤ a.y *ℤ q.1) b.x *ℤ p.0 +ℤ rest (a.y *ℤ q.0 -ℤ a.x *ℤ q.1) b.y *ℤ p.1)
parted a b p q r =
    let x = var 0 in let y = var 1 in let v = var 2 in let w = var 3 in
    let c = var 4 in let s = var 5 in let d = var 6 in let t = var 7 in let g = var 8 in let h = var 9 in
    let n = num (pos S) in
    ring
    (n ⊗ ((v ⊗ c ⊕ w ⊗ s) ⊖ (x ⊗ g ⊕ y ⊗ h)))
    ((x ⊗ (c ⊗ d ⊖ s ⊗ t ⊖ n ⊗ g) ⊕ y ⊗ (s ⊗ d ⊕ c ⊗ t ⊖ n ⊗ h)) ⊕ ((n ⊗ v ⊖ (x ⊗ d ⊕ y ⊗ t)) ⊗ c ⊕ (n ⊗ w ⊖ (y ⊗ d ⊖ x ⊗ t)) ⊗ s))
    (a.x ∷ a.y ∷ b.x ∷ b.y ∷ p.0 ∷ p.1 ∷ q.0 ∷ q.1 ∷ r.0 ∷ r.1 ∷ []) tt

-- the sizes of those parts, put together
together : (n x y c s i j p q : ℕ) → n ≤ (x * c + y * s) + (i * p + j * q) → c ≤ D → s ≤ D → i ≤ S / 2 → j ≤ S / 2 → p ≤ S → q ≤ S → n ≤ (x + y) * D + S * S
together n x y c s i j p q h hc hs hi hj hp hq =
    omega (arith, mul-le x c x D (omega arith) hc, mul-le y s y D (omega arith) hs, mul-le i p (S / 2) S hi hp, mul-le j q (S / 2) S hj hq)

-- a turned by q and seen along p is a seen along r, where r is nearly the product of p and q
pub turned_along : (a b : Fixed) (p q r : ℤ × ℤ) → Turned q a b → Close p q r → Short p → S * nat_abs (along p b -ℤ along r a) ≤ reach a * D + S * S
turned_along a b p q r turned close short =
    let i = rest (a.x *ℤ q.0 +ℤ a.y *ℤ q.1) b.x in
    let j = rest (a.y *ℤ q.0 -ℤ a.x *ℤ q.1) b.y in
    let defects = a.x *ℤ defect_c p q r +ℤ a.y *ℤ defect_s p q r in
    let rests = i *ℤ p.0 +ℤ j *ℤ p.1 in
    let all = sym (nat_abs_mul (pos S) (along p b -ℤ along r a)) ∙ ap nat_abs (parted a b p q r) in
    let sum = nat_abs_add defects rests in
    let of_defects = nat_abs_mul_add a.x (defect_c p q r) a.y (defect_s p q r) in
    let of_rests = nat_abs_mul_add i p.0 j p.1 in
    together (S * nat_abs (along p b -ℤ along r a)) (nat_abs a.x) (nat_abs a.y) (nat_abs (defect_c p q r)) (nat_abs (defect_s p q r)) (nat_abs i) (nat_abs j) (nat_abs p.0) (nat_abs p.1)
    (omega arith) close.c close.s (rest_small _ b.x turned.first) (rest_small _ b.y turned.second) short.c short.s

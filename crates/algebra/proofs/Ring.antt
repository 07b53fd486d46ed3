-- Polynomial identities of integers, by computing. Assumes nothing.
--
-- The identity (a + b)(a - b) = a a - b b is had so:
--
--     squares : (a b : ℤ) → (a +ℤ b) *ℤ (a -ℤ b) ≡ a *ℤ a -ℤ b *ℤ b
--     squares a b =
--         let A = var 0 in let B = var 1 in
--         ring ((A ⊕ B) ⊗ (A ⊖ B)) (A ⊗ A ⊖ B ⊗ B) (a ∷ b ∷ []) tt
--
-- Both sides are written once more as expressions (`Expr`), in which `var i` is number i of the list of values, `num k` the
-- number k, and ⊕ ⊖ ⊗ and `opp` the operations. `value` reads an expression as the number that it stands for. At a list of
-- written length it computes, so that the two values above are the two sides that `squares` speaks of.
--
-- `poly` brings an expression to a polynomial of Horner's form. With no variables that is a number. With a first variable x
-- it is the list of its coefficients by rising powers of x, each a polynomial in the other variables. The operations on
-- polynomials never look at the variables' values, so `vanishes`, which asks whether every coefficient at the bottom is 0,
-- computes to `true` or `false` even though a and b are not known.
--
-- `meant` is the value of a polynomial. Each operation is shown to have the meaning it should (`add_meant`, `times_meant` and
-- so on), so a polynomial means what its expression is worth (`poly_meant`), and one that vanishes means 0
-- (`vanishing_meant`). Two expressions whose difference vanishes are therefore equal, whatever the values: that is `ring`.
-- Its last argument is the answer of the test: `tt` where the identity holds, and nothing at all where it does not.
use Rattle.std.proofs.Common.{◌≡◌, ℕ, zero, suc, Bool, true, false, T, eqb, List, [], ◌∷◌, map, ℤ, pos, negsuc, ◌+ℤ◌, ◌-ℤ◌, ◌*ℤ◌, neg_ℤ, sym, refl, ap, ◌∙◌, arith, eqb→eq}
use lib.IntN.{+ℤ_idl, +ℤ_idr, *ℤ-zero, zero-*ℤ}
use Rattle.algebra.proofs.Ranges.{both, both_first, both_second}
use Rattle.algebra.proofs.Integers.{linear, mul_add, add_mul, mul_assoc, mul_swap, mul_neg, mul_one}

-- ---- expressions

infixl 6 ◌⊕◌ ◌⊖◌
infixl 7 ◌⊗◌
pub data Expr : Type 0 where
  num : ℤ → Expr
  var : ℕ → Expr
  ◌⊕◌ : Expr → Expr → Expr
  ◌⊖◌ : Expr → Expr → Expr
  ◌⊗◌ : Expr → Expr → Expr
  opp : Expr → Expr

-- variable i; one that has no value is 0
abbrev pub value_at : List ℤ → ℕ → ℤ
value_at [] i = pos 0
value_at (x ∷ xs) zero = x
value_at (x ∷ xs) (suc i) = value_at xs i

abbrev pub value : List ℤ → Expr → ℤ
value xs (num k) = k
value xs (var i) = value_at xs i
value xs (a ⊕ b) = value xs a +ℤ value xs b
value xs (a ⊖ b) = value xs a -ℤ value xs b
value xs (a ⊗ b) = value xs a *ℤ value xs b
value xs (opp a) = neg_ℤ (value xs a)

-- ---- polynomials; the lists of coefficients first, over any operations on these

abbrev pub add_lists : {P : Type 0} → (P → P → P) → List P → List P → List P
add_lists add [] qs = qs
add_lists add (p ∷ ps) [] = p ∷ ps
add_lists add (p ∷ ps) (q ∷ qs) = add p q ∷ add_lists add ps qs

abbrev pub times_lists : {P : Type 0} → (P → P → P) → (P → P → P) → P → List P → List P → List P
times_lists add times none [] qs = []
times_lists add times none (p ∷ ps) qs = add_lists add (map (times p) qs) (none ∷ times_lists add times none ps qs)

-- every coefficient passes
abbrev pub each : {P : Type 0} → (P → Bool) → List P → Bool
each test [] = true
each test (p ∷ ps) = both (test p) (each test ps)

-- polynomials in as many variables as the list has
abbrev pub Poly : List ℤ → Type 0
Poly [] = ℤ
Poly (x ∷ xs) = List (Poly xs)

abbrev pub constant : (xs : List ℤ) → ℤ → Poly xs
constant [] k = k
constant (x ∷ xs) k = constant xs k ∷ []

abbrev pub variable : (xs : List ℤ) → ℕ → Poly xs
variable [] i = pos 0
variable (x ∷ xs) zero = constant xs (pos 0) ∷ constant xs (pos 1) ∷ []
variable (x ∷ xs) (suc i) = variable xs i ∷ []

abbrev pub add : (xs : List ℤ) → Poly xs → Poly xs → Poly xs
add [] p q = p +ℤ q
add (x ∷ xs) p q = add_lists (add xs) p q

abbrev pub times : (xs : List ℤ) → Poly xs → Poly xs → Poly xs
times [] p q = p *ℤ q
times (x ∷ xs) p q = times_lists (add xs) (times xs) (constant xs (pos 0)) p q

abbrev pub opposite : (xs : List ℤ) → Poly xs → Poly xs
opposite [] p = neg_ℤ p
opposite (x ∷ xs) p = map (opposite xs) p

abbrev pub poly : (xs : List ℤ) → Expr → Poly xs
poly xs (num k) = constant xs k
poly xs (var i) = variable xs i
poly xs (a ⊕ b) = add xs (poly xs a) (poly xs b)
poly xs (a ⊖ b) = add xs (poly xs a) (opposite xs (poly xs b))
poly xs (a ⊗ b) = times xs (poly xs a) (poly xs b)
poly xs (opp a) = opposite xs (poly xs a)

abbrev pub is_zero : ℤ → Bool
is_zero (pos n) = eqb n 0
is_zero (negsuc n) = false

abbrev pub vanishes : (xs : List ℤ) → Poly xs → Bool
vanishes [] p = is_zero p
vanishes (x ∷ xs) p = each (vanishes xs) p

-- ---- their meaning

-- c 0 + x (c 1 + x (c 2 + ..)), where the coefficients mean what `mean` says
horner : {P : Type 0} → (P → ℤ) → ℤ → List P → ℤ
horner mean x [] = pos 0
horner mean x (p ∷ ps) = mean p +ℤ x *ℤ horner mean x ps

meant : (xs : List ℤ) → Poly xs → ℤ
meant [] k = k
meant (x ∷ xs) ps = horner (meant xs) x ps

module _ {P : Type 0} (mean : P → ℤ) (x : ℤ) where
  add_lists_meant : (add : P → P → P) → ((p q : P) → mean (add p q) ≡ mean p +ℤ mean q) → (ps qs : List P) → horner mean x (add_lists add ps qs) ≡ horner mean x ps +ℤ horner mean x qs
  unfolding horner
  add_lists_meant add h [] qs = sym (+ℤ_idl (horner mean x qs))
  add_lists_meant add h (p ∷ ps) [] = sym (+ℤ_idr (horner mean x (p ∷ ps)))
  add_lists_meant add h (p ∷ ps) (q ∷ qs) =
      let first = h p q in
      let others = ap (λ y. x *ℤ y) (add_lists_meant add h ps qs) ∙ mul_add x (horner mean x ps) (horner mean x qs) in
      omega (arith, linear)

  -- each coefficient k times what it was
  scaled_meant : (scale : P → P) (k : ℤ) → ((p : P) → mean (scale p) ≡ k *ℤ mean p) → (ps : List P) → horner mean x (map scale ps) ≡ k *ℤ horner mean x ps
  unfolding horner
  scaled_meant scale k h [] = sym (*ℤ-zero k)
  scaled_meant scale k h (p ∷ ps) =
      let first = h p in
      let others = ap (λ y. x *ℤ y) (scaled_meant scale k h ps) ∙ mul_swap x k (horner mean x ps) in
      let whole = mul_add k (mean p) (x *ℤ horner mean x ps) in
      omega (arith, linear)

  opposite_lists_meant : (neg : P → P) → ((p : P) → mean (neg p) ≡ neg_ℤ (mean p)) → (ps : List P) → horner mean x (map neg ps) ≡ neg_ℤ (horner mean x ps)
  unfolding horner
  opposite_lists_meant neg h [] = refl
  opposite_lists_meant neg h (p ∷ ps) =
      let first = h p in
      let others = ap (λ y. x *ℤ y) (opposite_lists_meant neg h ps) ∙ mul_neg x (horner mean x ps) in
      omega (arith, linear)

  times_lists_meant : (add times : P → P → P) (none : P) → ((p q : P) → mean (add p q) ≡ mean p +ℤ mean q) → ((p q : P) → mean (times p q) ≡ mean p *ℤ mean q) → mean none ≡ pos 0 → (ps qs : List P) → horner mean x (times_lists add times none ps qs) ≡ horner mean x ps *ℤ horner mean x qs
  unfolding horner
  times_lists_meant add times none adds multiplies nothing [] qs = sym (zero-*ℤ (horner mean x qs))
  times_lists_meant add times none adds multiplies nothing (p ∷ ps) qs =
      let sum = add_lists_meant add adds (map (times p) qs) (none ∷ times_lists add times none ps qs) in
      let first = scaled_meant (times p) (mean p) (multiplies p) qs in
      let others = ap (λ y. x *ℤ y) (times_lists_meant add times none adds multiplies nothing ps qs) ∙ sym (mul_assoc x (horner mean x ps) (horner mean x qs)) in
      let whole = add_mul (mean p) (x *ℤ horner mean x ps) (horner mean x qs) in
      omega (arith, linear)

  each_zero_meant : (test : P → Bool) → ((p : P) → T (test p) → mean p ≡ pos 0) → (ps : List P) → T (each test ps) → horner mean x ps ≡ pos 0
  unfolding horner
  each_zero_meant test h [] t = refl
  each_zero_meant test h (p ∷ ps) t =
      let first = h p (both_first (test p) (each test ps) t) in
      let others = ap (λ y. x *ℤ y) (each_zero_meant test h ps (both_second (test p) (each test ps) t)) ∙ *ℤ-zero x in
      omega (arith, linear)

constant_meant : (xs : List ℤ) (k : ℤ) → meant xs (constant xs k) ≡ k
unfolding meant horner
constant_meant [] k = refl
constant_meant (x ∷ xs) k = let first = constant_meant xs k in let others = *ℤ-zero x in omega (arith, linear)

add_meant : (xs : List ℤ) (p q : Poly xs) → meant xs (add xs p q) ≡ meant xs p +ℤ meant xs q
unfolding meant
add_meant [] p q = refl
add_meant (x ∷ xs) p q = add_lists_meant (meant xs) x (add xs) (add_meant xs) p q

times_meant : (xs : List ℤ) (p q : Poly xs) → meant xs (times xs p q) ≡ meant xs p *ℤ meant xs q
unfolding meant
times_meant [] p q = refl
times_meant (x ∷ xs) p q = times_lists_meant (meant xs) x (add xs) (times xs) (constant xs (pos 0)) (add_meant xs) (times_meant xs) (constant_meant xs (pos 0)) p q

opposite_meant : (xs : List ℤ) (p : Poly xs) → meant xs (opposite xs p) ≡ neg_ℤ (meant xs p)
unfolding meant
opposite_meant [] p = refl
opposite_meant (x ∷ xs) p = opposite_lists_meant (meant xs) x (opposite xs) (opposite_meant xs) p

variable_meant : (xs : List ℤ) (i : ℕ) → meant xs (variable xs i) ≡ value_at xs i
unfolding meant horner
variable_meant [] i = refl
variable_meant (x ∷ xs) zero =
    let none = constant_meant xs (pos 0) in
    let one : meant xs (constant xs (pos 1)) +ℤ x *ℤ pos 0 ≡ pos 1 = let c = constant_meant xs (pos 1) in let z = *ℤ-zero x in omega (arith, linear) in
    let itself = ap (λ y. x *ℤ y) one ∙ mul_one x in
    omega (arith, linear)
variable_meant (x ∷ xs) (suc i) = let first = variable_meant xs i in let others = *ℤ-zero x in omega (arith, linear)

poly_meant : (xs : List ℤ) (e : Expr) → meant xs (poly xs e) ≡ value xs e
poly_meant xs (num k) = constant_meant xs k
poly_meant xs (var i) = variable_meant xs i
poly_meant xs (a ⊕ b) = add_meant xs (poly xs a) (poly xs b) ∙ (λ i. poly_meant xs a i +ℤ poly_meant xs b i)
poly_meant xs (a ⊖ b) = add_meant xs (poly xs a) (opposite xs (poly xs b)) ∙ (λ i. poly_meant xs a i +ℤ (opposite_meant xs (poly xs b) ∙ ap neg_ℤ (poly_meant xs b)) i)
poly_meant xs (a ⊗ b) = times_meant xs (poly xs a) (poly xs b) ∙ (λ i. poly_meant xs a i *ℤ poly_meant xs b i)
poly_meant xs (opp a) = opposite_meant xs (poly xs a) ∙ ap neg_ℤ (poly_meant xs a)

is_zero_meant : (z : ℤ) → T (is_zero z) → z ≡ pos 0
is_zero_meant (pos n) t = ap pos (eqb→eq n 0 t)
is_zero_meant (negsuc n) t = absurd t

vanishing_meant : (xs : List ℤ) (p : Poly xs) → T (vanishes xs p) → meant xs p ≡ pos 0
unfolding meant
vanishing_meant [] p t = is_zero_meant p t
vanishing_meant (x ∷ xs) p t = each_zero_meant (meant xs) x (vanishes xs) (vanishing_meant xs) p t

-- the two expressions are equal at all values, where their difference vanishes
pub ring : (l r : Expr) (xs : List ℤ) → T (vanishes xs (poly xs (l ⊖ r))) → value xs l ≡ value xs r
ring l r xs t =
    let difference = sym (poly_meant xs (l ⊖ r)) ∙ vanishing_meant xs (poly xs (l ⊖ r)) t in
    omega (arith, linear)

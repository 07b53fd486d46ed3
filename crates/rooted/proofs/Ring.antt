-- What follows for an arithmetic whose values are a commutative ring. Assumes nothing.
use mathlib.Core.Path.{◌≡◌, ap, refl, sym, ◌∙◌}
use Prim.Native.Nat.{ℕ, zero, suc}
use Rattle.arithmetic.specs.Meaning.{Meaning}
use Rattle.arithmetic.specs.Series.{series}
use Rattle.arithmetic.specs.Laws.{copies}

pub record Ring {A R : Type 0} (m : Meaning A R) (one : A) : Type 0 where
  pub zero_reduced : m.value m.zero ≡ m.zero
  pub one_reduced : m.value one ≡ one
  pub sum_reduced : (a b : A) → m.value (m.sum a b) ≡ m.sum a b
  pub difference_reduced : (a b : A) → m.value (m.difference a b) ≡ m.difference a b
  pub product_reduced : (a b : A) → m.value (m.product a b) ≡ m.product a b
  pub sum_assoc : (a b c : A) → m.sum (m.sum a b) c ≡ m.sum a (m.sum b c)
  pub sum_comm : (a b : A) → m.sum a b ≡ m.sum b a
  pub zero_sum : (a : A) → m.sum m.zero a ≡ m.value a
  pub difference_sum : (a b : A) → m.sum (m.difference a b) b ≡ m.value a
  pub product_assoc : (a b c : A) → m.product (m.product a b) c ≡ m.product a (m.product b c)
  pub product_comm : (a b : A) → m.product a b ≡ m.product b a
  pub product_one : (a : A) → m.product a one ≡ m.value a
  pub product_sum : (a b c : A) → m.product a (m.sum b c) ≡ m.sum (m.product a b) (m.product a c)

module _ {A R : Type 0} {m : Meaning A R} {one : A} (ring : Ring m one) where
  pub value_value : (a : A) → m.value (m.value a) ≡ m.value a
  value_value a = ap m.value (sym (ring.zero_sum a)) ∙ ring.sum_reduced m.zero a ∙ ring.zero_sum a

  sum_value_left : (a b : A) → m.sum (m.value a) b ≡ m.sum a b
  sum_value_left a b =
      ap (λ x. m.sum x b) (sym (ring.zero_sum a)) ∙ ring.sum_assoc m.zero a b ∙ ring.zero_sum (m.sum a b) ∙ ring.sum_reduced a b

  pub sum_of_values : (a b : A) → m.sum (m.value a) (m.value b) ≡ m.sum a b
  sum_of_values a b =
      sum_value_left a (m.value b) ∙ ring.sum_comm a (m.value b) ∙ sum_value_left b a ∙ ring.sum_comm b a

  -- what makes zero with a
  opposite : A → A
  opposite a = m.difference m.zero a

  opposite_sum : (a : A) → m.sum (opposite a) a ≡ m.zero
  unfolding opposite
  opposite_sum a = ring.difference_sum m.zero a ∙ ring.zero_reduced

  -- a summand goes away on both sides
  cancel : (a b c : A) → m.sum a c ≡ m.sum b c → m.value a ≡ m.value b
  cancel a b c e = sym (back a) ∙ ap (m.sum (opposite c)) (ring.sum_comm c a ∙ e ∙ ring.sum_comm b c) ∙ back b
    where
      back : (x : A) → m.sum (opposite c) (m.sum c x) ≡ m.value x
      back x = sym (ring.sum_assoc (opposite c) c x) ∙ ap (λ z. m.sum z x) (opposite_sum c) ∙ ring.zero_sum x

  pub difference_of_values : (a b : A) → m.difference (m.value a) (m.value b) ≡ m.difference a b
  difference_of_values a b =
      let x = m.difference (m.value a) (m.value b) in
      let y = m.difference a b in
      let with_b : m.sum x b ≡ m.sum y b =
      ring.sum_comm x b ∙ sym (sum_value_left b x) ∙ ring.sum_comm (m.value b) x
      ∙ ring.difference_sum (m.value a) (m.value b) ∙ value_value a ∙ sym (ring.difference_sum a b) in
      sym (ring.difference_reduced (m.value a) (m.value b)) ∙ cancel x y b with_b ∙ ring.difference_reduced a b

  pub product_zero : (a : A) → m.product a m.zero ≡ m.zero
  product_zero a =
      let x = m.product a m.zero in
      let zeros : m.sum m.zero m.zero ≡ m.zero = ring.zero_sum m.zero ∙ ring.zero_reduced in
      let twice : m.sum x x ≡ m.sum m.zero x =
      sym (ring.product_sum a m.zero m.zero) ∙ ap (m.product a) zeros
      ∙ sym (ring.zero_sum x ∙ ring.product_reduced a m.zero) in
      sym (ring.product_reduced a m.zero) ∙ cancel x m.zero x twice ∙ ring.zero_reduced

  pub product_value : (a b : A) → m.product a (m.value b) ≡ m.product a b
  product_value a b =
      ap (m.product a) (sym (ring.zero_sum b)) ∙ ring.product_sum a m.zero b
      ∙ ap (λ z. m.sum z (m.product a b)) (product_zero a) ∙ ring.zero_sum (m.product a b) ∙ ring.product_reduced a b

  pub value_product : (a b : A) → m.product (m.value a) b ≡ m.product a b
  value_product a b = ring.product_comm (m.value a) b ∙ product_value b a ∙ ring.product_comm b a

  pub sum_product : (a b c : A) → m.product (m.sum a b) c ≡ m.sum (m.product a c) (m.product b c)
  sum_product a b c =
      ring.product_comm (m.sum a b) c ∙ ring.product_sum c a b
      ∙ ap (λ x. m.sum x (m.product c b)) (ring.product_comm c a) ∙ ap (m.sum (m.product a c)) (ring.product_comm c b)

  pub product_swap : (a b c : A) → m.product (m.product a b) c ≡ m.product (m.product a c) b
  product_swap a b c =
      ring.product_assoc a b c ∙ ap (m.product a) (ring.product_comm b c) ∙ sym (ring.product_assoc a c b)

  -- a common factor of the terms
  pub series_product : (a : A) (f : ℕ → A) (n : ℕ) → series m (λ j. m.product a (f j)) n ≡ m.product a (series m f n)
  unfolding series
  series_product a f zero = sym (product_zero a)
  series_product a f (suc zero) = refl
  series_product a f (suc (suc n)) =
      ap (λ x. m.sum x (m.product a (f (suc n)))) (series_product a f (suc n)) ∙ sym (ring.product_sum a (series m f (suc n)) (f (suc n)))

  -- n copies of a are a times n
  pub copies_is : (a : A) (n : ℕ) → m.value (copies m n a) ≡ m.product a (copies m n one)
  unfolding series
  copies_is a zero = ring.zero_reduced ∙ sym (product_zero a)
  copies_is a (suc zero) = sym (ring.product_one a)
  copies_is a (suc (suc n)) =
      ring.sum_reduced (copies m (suc n) a) a ∙ sym (sum_of_values (copies m (suc n) a) a)
      ∙ ap (λ x. m.sum x (m.value a)) (copies_is a (suc n)) ∙ ap (m.sum (m.product a (copies m (suc n) one))) (sym (ring.product_one a))
      ∙ sym (ring.product_sum a (copies m (suc n) one) one)

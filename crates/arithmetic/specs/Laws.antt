-- The laws of an arithmetic: a ladder from those of every one, to an exact one's, to a full one's.
use Rattle.std.specs.Prelude.{◌≡◌, true, false, ℕ, ◌+◌, ◌*◌, ◌%◌, ◌/◌, ◌^◌, ◌<◌}
use Rattle.arithmetic.specs.Meaning.{Meaning}
use Rattle.arithmetic.specs.Series.{series}

-- q has no divisor between 1 and itself
abbrev pub Prime : ℕ → Type 0
Prime q = (1 < q) × ((d : ℕ) → 1 < d → d < q → q % d ≡ 0 → ⊥)

-- n divides the number m above 0
abbrev pub Divides : ℕ → ℕ → Type 0
Divides n m = m % n ≡ 0

-- n copies of a, summed
abbrev pub copies : {A R : Type 0} → Meaning A R → ℕ → A → A
copies m n a = series m (λ _. a) n

-- of every arithmetic: each operation depends on the values alone and answers reduced words
pub record Every {A R : Type 0} (m : Meaning A R) : Type 0 where
  pub span_above_zero : 0 < m.span
  pub span_fits : m.span < 2 ^ 32
  pub value_value : (a : A) → m.value (m.value a) ≡ m.value a
  pub zero_reduced : m.value m.zero ≡ m.zero
  pub sum_reduced : (a b : A) → m.value (m.sum a b) ≡ m.sum a b
  pub difference_reduced : (a b : A) → m.value (m.difference a b) ≡ m.difference a b
  pub turn_reduced : (a : A) (e : ℕ) → m.value (m.turn a e) ≡ m.turn a e
  pub product_reduced : (a b : A) → m.value (m.product a b) ≡ m.product a b
  pub part_reduced : (a : A) (n : ℕ) → m.value (m.part a n) ≡ m.part a n
  pub sum_of_values : (a b : A) → m.sum (m.value a) (m.value b) ≡ m.sum a b
  pub difference_of_values : (a b : A) → m.difference (m.value a) (m.value b) ≡ m.difference a b
  pub turn_of_value : (a : A) (e : ℕ) → m.turn (m.value a) e ≡ m.turn a e
  pub product_of_values : (a b : A) → m.product (m.value a) (m.value b) ≡ m.product a b
  pub part_of_value : (a : A) (n : ℕ) → m.part (m.value a) n ≡ m.part a n
  pub turn_by_remainder : (a : A) (e : ℕ) → m.turn a (e % m.span) ≡ m.turn a e

pub record Exact {A R : Type 0} (m : Meaning A R) : Type 0 where
  pub sum_assoc : (a b c : A) → m.sum (m.sum a b) c ≡ m.sum a (m.sum b c)
  pub sum_comm : (a b : A) → m.sum a b ≡ m.sum b a
  pub zero_sum : (a : A) → m.sum m.zero a ≡ m.value a
  pub difference_sum : (a b : A) → m.sum (m.difference a b) b ≡ m.value a
  pub turn_sum : (a b : A) (e : ℕ) → m.turn (m.sum a b) e ≡ m.sum (m.turn a e) (m.turn b e)
  pub turn_by_zero : (a : A) → m.turn a 0 ≡ m.value a
  pub turn_turn : (a : A) (e f : ℕ) → m.turn (m.turn a e) f ≡ m.turn a ((e + f) % m.span)
  -- a prime's full circle of turns sums to zero
  pub circle_vanishes : (a : A) (q : ℕ) → Prime q → Divides q m.span → series m (λ j. m.turn a (j * (m.span / q))) q ≡ m.zero
  pub reading_of_value : (a : A) → m.reading (m.value a) ≡ m.reading a
  pub readings_differ : (a b : A) → m.reading a ≡ m.reading b → m.value a ≡ m.value b

pub record Full {A R : Type 0} (m : Meaning A R) : Type 0 where
  pub part_of_copies : (a : A) (n : ℕ) → Divides n m.span → m.part (copies m n a) n ≡ m.value a
  pub copies_of_part : (a : A) (n : ℕ) → Divides n m.span → copies m n (m.part a n) ≡ m.value a
  pub no_part : (a : A) (n : ℕ) → (Divides n m.span → ⊥) → m.part a n ≡ m.zero
  pub product_sum_left : (a b c : A) → m.product (m.sum a b) c ≡ m.sum (m.product a c) (m.product b c)
  pub product_sum_right : (a b c : A) → m.product a (m.sum b c) ≡ m.sum (m.product a b) (m.product a c)
  pub product_turn_left : (a b : A) (e : ℕ) → m.product (m.turn a e) b ≡ m.turn (m.product a b) e
  pub product_turn_right : (a b : A) (e : ℕ) → m.product a (m.turn b e) ≡ m.turn (m.product a b) e

-- one that is not full answers zero to product and part
pub record Without {A R : Type 0} (m : Meaning A R) : Type 0 where
  pub no_product : (a b : A) → m.product a b ≡ m.zero
  pub no_part : (a : A) (n : ℕ) → m.part a n ≡ m.zero

pub record Lawful {A R : Type 0} (m : Meaning A R) : Type 0 where
  pub every : Every m
  pub when_exact : m.exact ≡ true → Exact m
  pub when_full : m.full ≡ true → Full m
  pub full_is_exact : m.full ≡ true → m.exact ≡ true
  pub when_not_full : m.full ≡ false → Without m

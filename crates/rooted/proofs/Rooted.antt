-- An arithmetic of a commutative ring shows every law if its turns multiply by the powers of a root and its parts by inverses.
--
-- What is left to show of the root w and the span M: w^M is one, and for each prime q that divides M the powers of w by the
-- multiples of M/q sum to zero. The rest is algebra: turning by e and then by f multiplies by w^e w^f = w^(e + f), a sum of
-- turned copies of a is a times a sum of powers, and n copies of a are a times n, which n's inverse undoes.
use mathlib.Core.Path.{◌≡◌, ap, sym, ◌∙◌}
use mathlib.Core.Bool.{Bool, true, false}
use Prim.Native.Nat.{ℕ, zero, suc, ◌+◌, ◌*◌, ◌/◌, ◌%◌, ◌^◌, ◌<◌}
use native.Mathlib.Nat.{add-zero, add-suc, mul-zero, mul-suc, div-add-mod}
use native.Mathlib.Omega.{arith}
use Rattle.arithmetic.specs.Meaning.{Meaning}
use Rattle.arithmetic.specs.Series.{series}
use Rattle.arithmetic.specs.Laws.{Prime, Divides, copies, Every, Exact, Full, Lawful}
use Rattle.arithmetic.proofs.Series.{series_same}
use Rattle.rooted.proofs.Ring as rings
use Rattle.rooted.proofs.Ring.{Ring}

pub record Rooted {A R : Type 0} (m : Meaning A R) (power : ℕ → A) : Type 0 where
  pub one : A
  pub ring : Ring m one
  pub turn_is : (a : A) (e : ℕ) → m.turn a e ≡ m.product a (power e)
  pub power_zero : power 0 ≡ one
  pub power_more : (e : ℕ) → power (suc e) ≡ m.product (power e) (power 1)
  pub power_round : power m.span ≡ one
  pub powers_vanish : (q : ℕ) → Prime q → Divides q m.span → series m (λ j. power (j * (m.span / q))) q ≡ m.zero
  pub inverse : ℕ → A
  pub part_is : (a : A) (n : ℕ) → m.part a n ≡ m.product a (inverse n)
  pub inverse_is : (n : ℕ) → Divides n m.span → m.product (copies m n one) (inverse n) ≡ one
  pub no_inverse : (n : ℕ) → (Divides n m.span → ⊥) → inverse n ≡ m.zero
  pub reading_of_value : (a : A) → m.reading (m.value a) ≡ m.reading a
  pub readings_differ : (a b : A) → m.reading a ≡ m.reading b → m.value a ≡ m.value b
  pub span_above_zero : 0 < m.span
  pub span_fits : m.span < 2 ^ 32
  pub is_exact : m.exact ≡ true
  pub is_full : m.full ≡ true

module _ {A R : Type 0} (m : Meaning A R) (power : ℕ → A) (r : Rooted m power) where
  power_reduced : (e : ℕ) → m.value (power e) ≡ power e
  power_reduced zero = ap m.value r.power_zero ∙ r.ring.one_reduced ∙ sym r.power_zero
  power_reduced (suc e) =
      ap m.value (r.power_more e) ∙ r.ring.product_reduced (power e) (power 1) ∙ sym (r.power_more e)

  times_one : (x : A) → m.product x (power 0) ≡ m.value x
  times_one x = ap (m.product x) r.power_zero ∙ r.ring.product_one x

  pub power_sum : (e f : ℕ) → m.product (power e) (power f) ≡ power (e + f)
  power_sum e zero = times_one (power e) ∙ power_reduced e ∙ ap power (sym (add-zero e))
  power_sum e (suc f) =
      ap (m.product (power e)) (r.power_more f) ∙ sym (r.ring.product_assoc (power e) (power f) (power 1))
      ∙ ap (λ x. m.product x (power 1)) (power_sum e f) ∙ sym (r.power_more (e + f)) ∙ ap power (sym (add-suc e f))

  -- the powers by the multiples of s go on by one factor
  pub power_steps : (s e : ℕ) → power (s * suc e) ≡ m.product (power (s * e)) (power s)
  power_steps s e = ap power (mul-suc s e) ∙ sym (power_sum (s * e) s)

  power_rounds : (k : ℕ) → power (m.span * k) ≡ power 0
  power_rounds zero = ap power (mul-zero m.span)
  power_rounds (suc k) =
      power_steps m.span k
      ∙ ap (m.product (power (m.span * k))) (r.power_round ∙ sym r.power_zero) ∙ times_one (power (m.span * k))
      ∙ power_reduced (m.span * k) ∙ power_rounds k

  pub power_by_remainder : (e : ℕ) → power (e % m.span) ≡ power e
  power_by_remainder e =
      let k = m.span * (e / m.span) in
      sym (power_reduced (e % m.span)) ∙ sym (times_one (power (e % m.span)))
      ∙ ap (m.product (power (e % m.span))) (sym (power_rounds (e / m.span))) ∙ r.ring.product_comm (power (e % m.span)) (power k)
      ∙ power_sum k (e % m.span) ∙ ap power (div-add-mod e m.span)

  -- a power from one of the powers by multiples of s, and one of those below s
  pub power_of_two_levels : (s e : ℕ) → m.product (power (s * (e % m.span / s))) (power (e % m.span % s)) ≡ power e
  power_of_two_levels s e =
      power_sum (s * (e % m.span / s)) (e % m.span % s) ∙ ap power (div-add-mod (e % m.span) s) ∙ power_by_remainder e

  every : Every m
  every = record {
    span_above_zero = r.span_above_zero;
    span_fits = r.span_fits;
    value_value = rings.value_value r.ring;
    zero_reduced = r.ring.zero_reduced;
    sum_reduced = r.ring.sum_reduced;
    difference_reduced = r.ring.difference_reduced;
    turn_reduced = λ a e. ap m.value (r.turn_is a e) ∙ r.ring.product_reduced a (power e) ∙ sym (r.turn_is a e);
    product_reduced = r.ring.product_reduced;
    part_reduced = λ a n. ap m.value (r.part_is a n) ∙ r.ring.product_reduced a (r.inverse n) ∙ sym (r.part_is a n);
    sum_of_values = rings.sum_of_values r.ring;
    difference_of_values = rings.difference_of_values r.ring;
    turn_of_value = λ a e. r.turn_is (m.value a) e ∙ rings.value_product r.ring a (power e) ∙ sym (r.turn_is a e);
    product_of_values = λ a b. rings.value_product r.ring a (m.value b) ∙ rings.product_value r.ring a b;
    part_of_value = λ a n. r.part_is (m.value a) n ∙ rings.value_product r.ring a (r.inverse n) ∙ sym (r.part_is a n);
    turn_by_remainder = λ a e. r.turn_is a (e % m.span) ∙ ap (m.product a) (power_by_remainder e) ∙ sym (r.turn_is a e);
  }

  turn_sum : (a b : A) (e : ℕ) → m.turn (m.sum a b) e ≡ m.sum (m.turn a e) (m.turn b e)
  turn_sum a b e =
      r.turn_is (m.sum a b) e ∙ rings.sum_product r.ring a b (power e)
      ∙ ap (λ x. m.sum x (m.product b (power e))) (sym (r.turn_is a e)) ∙ ap (m.sum (m.turn a e)) (sym (r.turn_is b e))

  turn_turn : (a : A) (e f : ℕ) → m.turn (m.turn a e) f ≡ m.turn a ((e + f) % m.span)
  turn_turn a e f =
      ap (λ x. m.turn x f) (r.turn_is a e) ∙ r.turn_is (m.product a (power e)) f ∙ r.ring.product_assoc a (power e) (power f)
      ∙ ap (m.product a) (power_sum e f ∙ sym (power_by_remainder (e + f))) ∙ sym (r.turn_is a ((e + f) % m.span))

  circle_vanishes : (a : A) (q : ℕ) → Prime q → Divides q m.span → series m (λ j. m.turn a (j * (m.span / q))) q ≡ m.zero
  circle_vanishes a q prime divides =
      let step = m.span / q in
      series_same m (λ j. m.turn a (j * step)) (λ j. m.product a (power (j * step))) q (λ j _. r.turn_is a (j * step))
      ∙ rings.series_product r.ring a (λ j. power (j * step)) q
      ∙ ap (m.product a) (r.powers_vanish q prime divides) ∙ rings.product_zero r.ring a

  exact : Exact m
  exact = record {
    sum_assoc = r.ring.sum_assoc;
    sum_comm = r.ring.sum_comm;
    zero_sum = r.ring.zero_sum;
    difference_sum = r.ring.difference_sum;
    turn_sum = turn_sum;
    turn_by_zero = λ a. r.turn_is a 0 ∙ times_one a;
    turn_turn = turn_turn;
    circle_vanishes = circle_vanishes;
    reading_of_value = r.reading_of_value;
    readings_differ = r.readings_differ;
  }

  part_of_copies : (a : A) (n : ℕ) → Divides n m.span → m.part (copies m n a) n ≡ m.value a
  part_of_copies a n divides =
      r.part_is (copies m n a) n ∙ sym (rings.value_product r.ring (copies m n a) (r.inverse n))
      ∙ ap (λ x. m.product x (r.inverse n)) (rings.copies_is r.ring a n)
      ∙ r.ring.product_assoc a (copies m n r.one) (r.inverse n) ∙ ap (m.product a) (r.inverse_is n divides) ∙ r.ring.product_one a

  copies_of_part : (a : A) (n : ℕ) → Divides n m.span → copies m n (m.part a n) ≡ m.value a
  copies_of_part a n divides =
      ap (copies m n) (r.part_is a n) ∙ rings.series_product r.ring a (λ _. r.inverse n) n
      ∙ sym (rings.product_value r.ring a (copies m n (r.inverse n)))
      ∙ ap
      (m.product a)
      (rings.copies_is r.ring (r.inverse n) n ∙ r.ring.product_comm (r.inverse n) (copies m n r.one) ∙ r.inverse_is n divides)
      ∙ r.ring.product_one a

  full : Full m
  full = record {
    part_of_copies = part_of_copies;
    copies_of_part = copies_of_part;
    no_part = λ a n none. r.part_is a n ∙ ap (m.product a) (r.no_inverse n none) ∙ rings.product_zero r.ring a;
    product_sum_left = rings.sum_product r.ring;
    product_sum_right = r.ring.product_sum;
    product_turn_left = λ a b e. ap (λ x. m.product x b) (r.turn_is a e) ∙ rings.product_swap r.ring a (power e) b ∙ sym (r.turn_is (m.product a b) e);
    product_turn_right = λ a b e. ap (m.product a) (r.turn_is b e) ∙ sym (r.ring.product_assoc a b (power e)) ∙ sym (r.turn_is (m.product a b) e);
  }

  not_both : {b : Bool} → b ≡ true → b ≡ false → ⊥
  not_both {b} t f = let z : ◌≡◌ {A = ℕ} 0 1 = cc in omega arith

  pub lawful : Lawful m
  lawful = record {
    every = every;
    when_exact = λ _. exact;
    when_full = λ _. full;
    full_is_exact = λ _. r.is_exact;
    when_not_full = λ f. absurd (not_both r.is_full f);
  }

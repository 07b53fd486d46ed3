-- The pressure arithmetic shows every law: remainders make a ring, and what the root owes is computed.
use Rattle.std.specs.Prelude.{◌≡◌, refl, Bool, cond, List, [], ◌∷◌, ℕ, zero, suc, ◌+◌, ◌*◌, ◌/◌, ◌%◌, ◌^◌, T}
use Rattle.std.proofs.Common.{ap, ◌∙◌, add_comm, zero-add, mul_comm, mul-one, add-one, lit<, lit≤, ne_eqb}
use Rattle.std.proofs.Math.Nat.{mod-mod, mod-add-mod}
use Rattle.algebra.proofs.Ranges.{below}
use Rattle.algebra.proofs.Primes.{met, at_primes}
use Rattle.algebra.proofs.Remainders as remainders
use Rattle.arithmetic.specs.Series.{series}
use Rattle.arithmetic.specs.Laws.{Prime, Divides, copies, Lawful}
use Rattle.residues.specs.Residues.{Modulus}
use Rattle.rooted.proofs.Ring.{Ring}
use Rattle.rooted.proofs.Rooted.{Rooted}
use Rattle.rooted.proofs.Rooted as from_root
use Rattle.pressure.specs.declared.Pressure.{Pressure}
use Rattle.pressure.specs.Pressures.{modulus, span, root, span_inverse, counted, residue, powers, inverse, pressures}

as_elements : {x y : ℕ} → x ≡ y → counted x ≡ counted y
as_elements = ap counted

again : (n : ℕ) → residue (n % modulus) ≡ residue n
again n = as_elements (mod-mod n modulus)

ring : Ring pressures (residue 1)
ring = record {
  zero_reduced = refl;
  one_reduced = refl;
  sum_reduced = λ a b. again _;
  difference_reduced = λ a b. again _;
  product_reduced = λ a b. again _;
  sum_assoc = λ a b c. as_elements (remainders.sum_assoc modulus a.word b.word c.word);
  sum_comm = λ a b. ap residue (add_comm a.word b.word);
  zero_sum = λ a. ap residue (zero-add a.word);
  difference_sum = λ a b. as_elements (remainders.difference_sum modulus (lit< tt) a.word b.word);
  product_assoc = λ a b c. as_elements (remainders.product_assoc modulus a.word b.word c.word);
  product_comm = λ a b. ap residue (mul_comm a.word b.word);
  product_one = λ a. ap residue (mul-one a.word);
  product_sum = λ a b c. as_elements (remainders.product_sum modulus a.word b.word c.word);
}

-- one, n times
copies_of_one : (n : ℕ) → copies pressures n (residue 1) ≡ residue n
unfolding series
copies_of_one zero = refl
copies_of_one (suc zero) = refl
copies_of_one (suc (suc n)) =
    ap (λ (x : Pressure). residue (x.word + 1)) (copies_of_one (suc n))
    ∙ as_elements (mod-add-mod (suc n) modulus 1) ∙ ap residue (add-one (suc n))

-- the primes that divide the span
abbrev pub primes : List ℕ
primes = 2 ∷ 3 ∷ 5 ∷ []

pub tested : T (below (suc span) (met span primes))
tested = tt

-- the powers by the multiples of span / q sum to zero
abbrev Vanish : ℕ → Type 0
Vanish q = series pressures (λ j. residue (root ^ (j * (span / q)))) q ≡ residue 0

powers_vanish : (q : ℕ) → Prime q → Divides q span → Vanish q
unfolding series
powers_vanish = at_primes span primes (lit< tt) tested Vanish (refl, (refl, (refl, tt)))

inverse_is : (n : ℕ) → Divides n span → residue ((copies pressures n (residue 1)).word * inverse n) ≡ residue 1
inverse_is n divides =
    ap (λ (x : Pressure). residue (x.word * inverse n)) (copies_of_one n)
    ∙ as_elements (remainders.mod_mul_mod modulus n (inverse n) ∙ remainders.inverse_of_part modulus span span_inverse n refl divides)

no_inverse : (n : ℕ) → (Divides n span → ⊥) → counted (inverse n) ≡ residue 0
no_inverse n none = ap (λ (b : Bool). counted (cond b ((span / n * span_inverse) % modulus) 0)) (ne_eqb (span % n) 0 none)

pub rooted : Rooted pressures powers
rooted = record {
  one = residue 1;
  ring = ring;
  turn_is = λ a e. refl;
  power_zero = refl;
  power_more = λ e. as_elements (remainders.power_more modulus root e);
  power_round = refl;
  powers_vanish = powers_vanish;
  inverse = λ n. counted (inverse n);
  part_is = λ a n. refl;
  inverse_is = inverse_is;
  no_inverse = no_inverse;
  reading_of_value = λ a. mod-mod a.word modulus;
  readings_differ = λ a b. as_elements;
  span_above_zero = lit< tt;
  span_fits = lit< tt;
  is_exact = refl;
  is_full = refl;
}

pub lawful : Lawful pressures
lawful = from_root.lawful pressures powers rooted

pub span_is : Modulus span
span_is = record { above_zero = lit< tt; small = lit≤ tt }

pub sums : (e f : ℕ) → pressures.product (powers e) (powers f) ≡ powers (e + f)
sums = from_root.power_sum pressures powers rooted

pub goes_round : (e : ℕ) → powers (e % span) ≡ powers e
goes_round = from_root.power_by_remainder pressures powers rooted

pub modulus_is : Modulus modulus
modulus_is = record { above_zero = lit< tt; small = lit≤ tt }

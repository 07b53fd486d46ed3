-- The path arithmetic shows every law: pairs of remainders make a ring, and what the root owes is computed.
use Rattle.std.specs.Prelude.{◌≡◌, ℕ, zero, suc, ◌+◌, ◌*◌, ◌/◌, ◌%◌, ◌<◌, Bool, cond, T, List, [], ◌∷◌, refl}
use Rattle.std.proofs.Common.{ap, sym, ◌∙◌, add_comm, zero-add, zero-mul, mul-one, add-one, lit<, lit≤, ne_eqb}
use Rattle.std.proofs.Math.Nat.{mod-mod, mod-add-mod}
use Rattle.algebra.proofs.Ranges.{below}
use Rattle.algebra.proofs.Primes.{met, at_primes}
use Rattle.algebra.proofs.Remainders as remainders
use Rattle.algebra.proofs.Pairs as pairs
use Rattle.arithmetic.specs.Series.{series}
use Rattle.arithmetic.specs.Laws.{Prime, Divides, copies, Lawful}
use Rattle.residues.specs.Residues.{Modulus}
use Rattle.rooted.proofs.Ring.{Ring, product_value}
use Rattle.rooted.proofs.Rooted.{Rooted}
use Rattle.rooted.proofs.Rooted as from_root
use Rattle.path.specs.declared.Path.{Path}
use Rattle.path.specs.Paths.{modulus, span, span_inverse, residue, times, power, inverse, paths}

-- elements with the same words
pub same_words : {u u' v v' : ℕ} → u ≡ u' → v ≡ v' → ◌≡◌ {A = Path} (record { u = u; v = v }) (record { u = u'; v = v' })
same_words p q = λ i. record { u = p i; v = q i }

again : (u v : ℕ) → residue (u % modulus) (v % modulus) ≡ residue u v
again u v = same_words (mod-mod u modulus) (mod-mod v modulus)

above : 0 < modulus
above = lit< tt

product_assoc : (a b c : Path) → times (times a b) c ≡ times a (times b c)
product_assoc a b c =
    same_words
    (pairs.first_assoc modulus above a.u a.v b.u b.v c.u c.v)
    (pairs.second_assoc modulus above a.u a.v b.u b.v c.u c.v)

product_comm : (a b : Path) → times a b ≡ times b a
product_comm a b =
    same_words (pairs.first_comm modulus above a.u a.v b.u b.v) (pairs.second_comm modulus above a.u a.v b.u b.v)

product_sum : (a b c : Path) → times a (paths.sum b c) ≡ paths.sum (times a b) (times a c)
product_sum a b c =
    same_words
    (pairs.first_sum modulus above a.u a.v b.u b.v c.u c.v)
    (pairs.second_sum modulus above a.u a.v b.u b.v c.u c.v)

-- a number, as an element
abbrev scalar : ℕ → Path
scalar n = record { u = n; v = 0 }

product_scalar : (a : Path) (n : ℕ) → times a (scalar n) ≡ residue (a.u * n) (a.v * n)
product_scalar a n = same_words (pairs.first_scaled modulus above a.u a.v n) (pairs.second_scaled modulus above a.u a.v n)

same_residue : {u u' v v' : ℕ} → u ≡ u' → v ≡ v' → residue u v ≡ residue u' v'
same_residue p q = λ i. residue (p i) (q i)

ring : Ring paths (residue 1 0)
ring = record {
  zero_reduced = refl;
  one_reduced = refl;
  sum_reduced = λ a b. again _ _;
  difference_reduced = λ a b. again _ _;
  product_reduced = λ a b. again _ _;
  sum_assoc = λ a b c. same_words (remainders.sum_assoc modulus a.u b.u c.u) (remainders.sum_assoc modulus a.v b.v c.v);
  sum_comm = λ a b. same_residue (add_comm a.u b.u) (add_comm a.v b.v);
  zero_sum = λ a. same_residue (zero-add a.u) (zero-add a.v);
  difference_sum = λ a b. same_words (remainders.difference_sum modulus above a.u b.u) (remainders.difference_sum modulus above a.v b.v);
  product_assoc = product_assoc;
  product_comm = product_comm;
  product_one = λ a. product_scalar a 1 ∙ same_residue (mul-one a.u) (mul-one a.v);
  product_sum = product_sum;
}

-- a product depends on the second factor's value alone
pub times_value : (a b : Path) → times a (residue b.u b.v) ≡ times a b
times_value = product_value ring

-- one, n times
copies_of_one : (n : ℕ) → copies paths n (residue 1 0) ≡ residue n 0
unfolding series
copies_of_one zero = refl
copies_of_one (suc zero) = refl
copies_of_one (suc (suc n)) =
    ap (λ (x : Path). residue (x.u + 1) (x.v + 0)) (copies_of_one (suc n))
    ∙ same_words (mod-add-mod (suc n) modulus 1 ∙ ap (λ x. x % modulus) (add-one (suc n))) refl

-- the primes that divide the span
abbrev pub primes : List ℕ
primes = 2 ∷ 3 ∷ []

pub tested : T (below (suc span) (met span primes))
tested = tt

-- the powers by the multiples of span / q sum to zero
abbrev Vanish : ℕ → Type 0
Vanish q = series paths (λ j. power (j * (span / q))) q ≡ residue 0 0

powers_vanish : (q : ℕ) → Prime q → Divides q span → Vanish q
unfolding series power
powers_vanish = at_primes span primes (lit< tt) tested Vanish (refl, (refl, tt))

pub power_round : power span ≡ residue 1 0
unfolding power
power_round = refl

inverse_is : (n : ℕ) → Divides n span → times (copies paths n (residue 1 0)) (scalar (inverse n)) ≡ residue 1 0
inverse_is n divides =
    ap (λ (x : Path). times x (scalar (inverse n))) (copies_of_one n) ∙ product_scalar (residue n 0) (inverse n)
    ∙ same_words
    (remainders.mod_mul_mod modulus n (inverse n) ∙ remainders.inverse_of_part modulus span span_inverse n refl divides)
    (ap (λ x. x % modulus) (zero-mul (inverse n)))

no_inverse : (n : ℕ) → (Divides n span → ⊥) → scalar (inverse n) ≡ residue 0 0
no_inverse n none = ap (λ (b : Bool). scalar (cond b ((span / n * span_inverse) % modulus) 0)) (ne_eqb (span % n) 0 none)

pub rooted : Rooted paths power
unfolding power
rooted = record {
  one = residue 1 0;
  ring = ring;
  turn_is = λ a e. refl;
  power_zero = refl;
  power_more = λ e. refl;
  power_round = power_round;
  powers_vanish = powers_vanish;
  inverse = λ n. scalar (inverse n);
  part_is = λ a n. sym (product_scalar a (inverse n));
  inverse_is = inverse_is;
  no_inverse = no_inverse;
  reading_of_value = λ a. ap (λ (x : Path). (x.u, x.v)) (again a.u a.v);
  readings_differ = λ a b same. same_words (ap (λ x. x.0) same) (ap (λ x. x.1) same);
  span_above_zero = lit< tt;
  span_fits = lit< tt;
  is_exact = refl;
  is_full = refl;
}

pub lawful : Lawful paths
lawful = from_root.lawful paths power rooted

pub modulus_is : Modulus modulus
modulus_is = record { above_zero = above; small = lit≤ tt }

pub span_is : Modulus span
span_is = record { above_zero = lit< tt; small = lit≤ tt }

pub sums : (e f : ℕ) → times (power e) (power f) ≡ power (e + f)
sums = from_root.power_sum paths power rooted

pub goes_round : (e : ℕ) → power (e % span) ≡ power e
goes_round = from_root.power_by_remainder paths power rooted

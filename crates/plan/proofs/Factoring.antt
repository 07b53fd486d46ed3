-- What the standard plan of a length takes, and why it fails where it does.
use Rattle.std.proofs.Common.{◌≡◌, ℕ, zero, suc, ◌-◌, ◌*◌, ◌/◌, ◌%◌, ◌^◌, ◌<◌, ◌≤◌, ◌⊎◌, List, [], ◌∷◌, length, get_or, Some, None, Option, sym, refl, ap, ◌∙◌, subst, inl, inr, ⊎_elim, not-suc-le-zero, arith, pow_mono}
use native.Mathlib.Nat.{mod_self, pow-succ', dvd_of_mod-eq-zero, dvd-mul_left_of_dvd, mod-eq-zero_of_dvd}
use Rattle.std.specs.Option.{option_map, ok_or}
use Rattle.std.proofs.lemmas.Nat.{mul-le}
use Rattle.std.proofs.lemmas.Bool.{cases_eq, cases_lt, cond-true, cond-false, eq-eqb, ne_eqb}
use Rattle.arithmetic.specs.Laws.{Prime, Divides}
use Rattle.arithmetic.proofs.Divisors.{times_quotient, divides_trans, prime_factor}
use Rattle.plan.specs.declared.fault.PlanFault.TheVariants.{Length}
use Rattle.plan.specs.Radices.{size, most_radices, least_radix, largest_radix, largest_size, Each}
use Rattle.plan.specs.Standard.{standard_radices, factors, most_steps, standard}
use Rattle.plan.specs.Lengths.{InTurn, LargeFactor, StandardPlan, Granted}
use Rattle.plan.proofs.Sizes.{right_positive, each_tail}
use Rattle.plan.proofs.Growing.{pow_le_size}
use Rattle.plan.proofs.Primes.{above_zero, above_one, prime_above_radices}
use Rattle.plan.proofs.Taking.{standard_each, standard_outside, standard_inside}

-- the radices taken out of a length by those that are tried
record Factored (tried : List ℕ) (left : ℕ) (rs : List ℕ) : Type 0 where
  product : size rs ≡ left
  each : Each rs
  in_turn : InTurn tried rs

factored_more : (r : ℕ) (tried : List ℕ) (left : ℕ) (rs : List ℕ) → (least_radix ≤ r) × (r ≤ largest_radix) → Divides r left → Factored (r ∷ tried) (left / r) rs → Factored (r ∷ tried) left (r ∷ rs)
factored_more r tried left rs radix divides f =
    record {
      product = ap (λ x. r * x) f.product ∙ times_quotient r left divides;
      each = each_cons;
      in_turn = (suc f.in_turn.0, f.in_turn.1, ap (λ x. r ∷ x) f.in_turn.2, f.in_turn.3, f.in_turn.4);
    }
  where
    each_cons : Each (r ∷ rs)
    each_cons zero h = radix
    each_cons (suc i) h = f.each i (omega arith)

factored_next : (r : ℕ) (tried : List ℕ) (left : ℕ) (rs : List ℕ) → (Divides r left → ⊥) → Factored tried left rs → Factored (r ∷ tried) left rs
factored_next r tried left rs not f =
    record {
      product = f.product;
      each = f.each;
      in_turn = (0, rs, refl, λ divides. not (ap (λ x. x % r) (sym f.product) ∙ divides), f.in_turn);
    }

mapped_some : (r : ℕ) (rs : List ℕ) (o : Option (List ℕ)) → Some rs ≡ option_map (λ taken. r ∷ taken) o → (rest : List ℕ) × (Some rest ≡ o) × (rs ≡ r ∷ rest)
mapped_some r rs None e = let z : ◌≡◌ {A = ℕ} 0 1 = cc in absurd (omega arith)
mapped_some r rs (Some rest) e = (rest, refl, cc)

mapped_none : (r : ℕ) (o : Option (List ℕ)) → None ≡ option_map (λ taken. r ∷ taken) o → None ≡ o
mapped_none r None e = refl
mapped_none r (Some rest) e = cc

factors_factored : (k : ℕ) (tried : List ℕ) (left : ℕ) (rs : List ℕ) → Each tried → Some rs ≡ factors k tried left → Factored tried left rs
factors_factored k [] left rs each e = ended (cases_eq left 1)
  where
    ended : (left ≡ 1) ⊎ (left ≡ 1 → ⊥) → Factored [] left rs
    ended (inl one) =
        let all : Some rs ≡ Some [] = e ∙ cond-true _ _ _ (eq-eqb left 1 one) in
        let none : rs ≡ [] = cc in
        subst (Factored [] left) (sym none) record { product = sym one; each = λ i h. absurd (not-suc-le-zero h); in_turn = refl }
    ended (inr not) =
        let no : Some rs ≡ None = e ∙ cond-false _ _ _ (ne_eqb left 1 not) in
        let z : ◌≡◌ {A = ℕ} 0 1 = cc in
        absurd (omega arith)
factors_factored zero (r ∷ tried) left rs each e = let z : ◌≡◌ {A = ℕ} 0 1 = cc in absurd (omega arith)
factors_factored (suc k) (r ∷ tried) left rs each e =
    ⊎_elim
    (λ (yes : left % r ≡ 0).
    let m = mapped_some r rs (factors k (r ∷ tried) (left / r)) (e ∙ cond-true _ _ _ (eq-eqb (left % r) 0 yes)) in
    subst (Factored (r ∷ tried) left) (sym m.2) (factored_more r tried left m.0 (each 0 (omega arith)) yes (factors_factored k (r ∷ tried) (left / r) m.0 each m.1)))
    (λ (not : left % r ≡ 0 → ⊥). factored_next r tried left rs not (factors_factored k tried left rs (each_tail r tried each) (e ∙ cond-false _ _ _ (ne_eqb (left % r) 0 not))))
    (cases_eq (left % r) 0)

-- a part above 1 of a length, which none of those that are tried divides
record Stuck (tried : List ℕ) (left : ℕ) : Type 0 where
  part : ℕ
  more : 1 < part
  divides : Divides part left
  none : (i : ℕ) → i < length tried → Divides (get_or tried i 0) part → ⊥

stuck_more : (r : ℕ) (tried : List ℕ) (left : ℕ) → Divides r left → Stuck (r ∷ tried) (left / r) → Stuck (r ∷ tried) left
stuck_more r tried left divides s =
    record {
      part = s.part;
      more = s.more;
      divides =
          ap (λ x. x % s.part) (sym (times_quotient r left divides))
          ∙ mod-eq-zero_of_dvd s.part (dvd-mul_left_of_dvd s.part (dvd_of_mod-eq-zero s.part s.divides) r);
      none = s.none;
    }

stuck_next : (r : ℕ) (tried : List ℕ) (left : ℕ) → (Divides r left → ⊥) → Stuck tried left → Stuck (r ∷ tried) left
stuck_next r tried left not s =
    record { part = s.part; more = s.more; divides = s.divides; none = none_of }
  where
    none_of : (i : ℕ) → i < length (r ∷ tried) → Divides (get_or (r ∷ tried) i 0) s.part → ⊥
    none_of zero h d = not (divides_trans r s.part left d s.divides)
    none_of (suc i) h d = s.none i (omega arith) d

-- a step that takes a radix halves what is left at least, so the steps suffice
halves : (r left j : ℕ) → least_radix ≤ r → Divides r left → 0 < left → left ≤ 2 ^ j → (0 < left / r) × (0 < j) × (left / r ≤ 2 ^ (j - 1))
halves r left j low divides pos bound =
    let parts = times_quotient r left divides in
    let some = right_positive r (left / r) (omega arith) in
    let twice = mul-le 2 (left / r) r (left / r) low (omega arith) in
    let steps : 0 < j = above j bound (omega arith) in
    let up : j ≡ suc (j - 1) = omega arith in
    let back : 2 ^ j ≡ 2 * 2 ^ (j - 1) = ap (λ x. 2 ^ x) up ∙ pow-succ' 2 (j - 1) in
    (some, steps, omega arith)
  where
    above : (x : ℕ) → left ≤ 2 ^ x → 1 < left → 0 < x
    above zero h l = absurd (omega arith)
    above (suc x) h l = omega arith

factors_stuck : (k : ℕ) (tried : List ℕ) (left : ℕ) → Each tried → 0 < left → length tried ≤ k → left ≤ 2 ^ (k - length tried) → None ≡ factors k tried left → Stuck tried left
factors_stuck k [] left each pos room bound e = ended (cases_eq left 1)
  where
    ended : (left ≡ 1) ⊎ (left ≡ 1 → ⊥) → Stuck [] left
    ended (inl one) =
        let no : None ≡ Some [] = e ∙ cond-true _ _ _ (eq-eqb left 1 one) in
        let z : ◌≡◌ {A = ℕ} 0 1 = cc in
        absurd (omega arith)
    ended (inr not) =
        record { part = left; more = above_one left pos not; divides = mod_self left; none = λ i h d. not-suc-le-zero h }
factors_stuck zero (r ∷ tried) left each pos room bound e = absurd (not-suc-le-zero room)
factors_stuck (suc k) (r ∷ tried) left each pos room bound e =
    ⊎_elim
    (λ (yes : left % r ≡ 0).
    let half = halves r left (suc k - suc (length tried)) (each 0 (omega arith)).0 yes pos bound in
    let rest : None ≡ factors k (r ∷ tried) (left / r) = mapped_none r (factors k (r ∷ tried) (left / r)) (e ∙ cond-true _ _ _ (eq-eqb (left % r) 0 yes)) in
    let same : suc k - suc (length tried) - 1 ≡ k - suc (length tried) = omega arith in
    stuck_more r tried left yes (factors_stuck k (r ∷ tried) (left / r) each half.0 (omega (arith, half.1)) (subst (λ x. left / r ≤ 2 ^ x) same half.2) rest))
    (λ (not : left % r ≡ 0 → ⊥).
    let same : suc k - suc (length tried) ≡ k - length tried = omega arith in
    stuck_next r tried left not (factors_stuck k tried left (each_tail r tried each) pos (omega arith) (subst (λ x. left ≤ 2 ^ x) same bound) (e ∙ cond-false _ _ _ (ne_eqb (left % r) 0 not))))
    (cases_eq (left % r) 0)

-- a factor that neither a standard radix nor 6 is, of a part that none of them divides, is above 7
above_seven : (part q : ℕ) → ((i : ℕ) → i < length standard_radices → Divides (get_or standard_radices i 0) part → ⊥) → Prime q → Divides q part → 7 < q
above_seven part zero none prime d = absurd (omega (arith, prime.0))
above_seven part (suc zero) none prime d = absurd (omega (arith, prime.0))
above_seven part (suc (suc zero)) none prime d = absurd (none 1 (omega arith) d)
above_seven part (suc (suc (suc zero))) none prime d = absurd (none 2 (omega arith) d)
above_seven part (suc (suc (suc (suc zero)))) none prime d = absurd (none 0 (omega arith) d)
above_seven part (suc (suc (suc (suc (suc zero))))) none prime d = absurd (none 3 (omega arith) d)
above_seven part (suc (suc (suc (suc (suc (suc zero)))))) none prime d = absurd (prime.1 2 (omega arith) (omega arith) refl)
above_seven part (suc (suc (suc (suc (suc (suc (suc zero))))))) none prime d = absurd (none 4 (omega arith) d)
above_seven part (suc (suc (suc (suc (suc (suc (suc (suc q)))))))) none prime d = omega arith

stuck_large : (n : ℕ) → Stuck standard_radices n → LargeFactor n
stuck_large n s =
    let q = prime_factor s.part s.more in
    (q.0, q.1, above_seven s.part q.0 s.none q.1 q.2, divides_trans q.0 s.part n q.2 s.divides)

-- no prime is 8
above_eight : (q : ℕ) → Prime q → 7 < q → 8 < q
above_eight q prime more =
    ⊎_elim (λ (l : 8 < q). l) (λ (l : q ≤ 8). let eight : q ≡ 8 = omega arith in absurd (prime.1 2 (omega arith) (omega arith) (ap (λ x. x % 2) eight))) (cases_lt 8 q)

factored_standard : (n : ℕ) (rs : List ℕ) → n ≤ largest_size → Factored standard_radices n rs → StandardPlan n rs
factored_standard n rs small f =
    record {
      product = f.product;
      plan = record { few = few; each = f.each; small = omega (arith, f.product) };
      in_turn = f.in_turn;
      no_large_factor = λ q.
          let eight = above_eight q.0 q.1 q.2 in
          prime_above_radices q.0 rs q.1 (λ i h. (omega (arith, (f.each i h).0), omega (arith, (f.each i h).1))) (ap (λ x. x % q.0) f.product ∙ q.3);
    }
  where
    few : length rs ≤ most_radices
    few =
        ⊎_elim (λ (l : most_radices < length rs). absurd (omega (arith, pow_mono l, pow_le_size rs f.each, f.product))) (λ (l : length rs ≤ most_radices). l) (cases_lt most_radices (length rs))

standard_inside_granted : (n : ℕ) (o : Option (List ℕ)) → 0 < n → n ≤ largest_size → o ≡ factors most_steps standard_radices n → Granted n (ok_or o (Length n))
standard_inside_granted n (Some rs) pos small e =
    factored_standard n rs small (factors_factored most_steps standard_radices n rs standard_each e)
standard_inside_granted n None pos small e =
    (refl, inr (inr (stuck_large n (factors_stuck most_steps standard_radices n standard_each pos (omega arith) small e))))

pub standard_granted : (n : ℕ) → Granted n (standard n)
standard_granted n =
    ⊎_elim
    (λ (none : n ≡ 0). subst (Granted n) (sym (standard_outside n (inl none))) (refl, inl none))
    (λ (some : n ≡ 0 → ⊥).
    ⊎_elim
    (λ (large : largest_size < n). subst (Granted n) (sym (standard_outside n (inr large))) (refl, inr (inl large)))
    (λ (small : n ≤ largest_size). subst (Granted n) (sym (standard_inside n (above_zero n some) small)) (standard_inside_granted n (factors most_steps standard_radices n) (above_zero n some) small refl))
    (cases_lt largest_size n))
    (cases_eq n 0)

-- Taking the standard radices out of a length, one step at a time.
use Rattle.std.proofs.Common.{◌≡◌, ℕ, zero, suc, ◌+◌, ◌-◌, ◌*◌, ◌/◌, ◌%◌, ◌<◌, ◌≤◌, true, false, cond, ◌&&◌, eqb, leb, ◌⊎◌, List, [], ◌∷◌, ◌++◌, length, get_or, drop, Some, None, Err, Option, sym, refl, ap, ◌∙◌, append_assoc, append-nil, mul_assoc, mul-le-mul_left, arith}
use native.Mathlib.Nat.{le_of_dvd, dvd_of_mod-eq-zero}
use Rattle.std.specs.Option.{option_map, ok_or}
use Rattle.std.proofs.lemmas.Nat.{div-add-mod'}
use Rattle.std.proofs.lemmas.List.{at_drop_more, at_drop_all, length_push}
use Rattle.std.proofs.lemmas.Bool.{cond-true, cond-false, eq-eqb, ne_eqb}
use Rattle.std.proofs.lemmas.Bool.Decides.{nat_tests}
use Rattle.plan.specs.declared.fault.PlanFault.TheVariants.{Length}
use Rattle.plan.specs.Radices.{size, most_radices, largest_size, Each}
use Rattle.plan.specs.Standard.{standard_radices, factors, most_steps, standard}
use Rattle.plan.proofs.Sizes.{right_positive}
use Rattle.plan.proofs.Growing.{size_push}

-- the radices that were taken before those of an answer
abbrev pub onto : List ℕ → Option (List ℕ) → Option (List ℕ)
onto taken = option_map (λ rest. taken ++ rest)

onto_push : (taken : List ℕ) (r : ℕ) (o : Option (List ℕ)) → onto taken (option_map (λ rest. r ∷ rest) o) ≡ onto (taken ++ r ∷ []) o
onto_push taken r None = refl
onto_push taken r (Some rest) = ap Some (sym (append_assoc taken (r ∷ []) rest))

onto_none : (o : Option (List ℕ)) → onto [] o ≡ o
onto_none None = refl
onto_none (Some rest) = refl

pub standard_each : Each standard_radices
standard_each zero h = (omega arith, omega arith)
standard_each (suc zero) h = (omega arith, omega arith)
standard_each (suc (suc zero)) h = (omega arith, omega arith)
standard_each (suc (suc (suc zero))) h = (omega arith, omega arith)
standard_each (suc (suc (suc (suc zero)))) h = (omega arith, omega arith)
standard_each (suc (suc (suc (suc (suc i))))) h = absurd (omega arith)

-- with i radices tried and these taken, what is left is still to be taken by the others
pub record Taking (n i : ℕ) (taken : List ℕ) (left : ℕ) : Type 0 where
  pub whole : size taken * left ≡ n
  pub rest : onto taken (factors (most_steps - (length taken + i)) (drop i standard_radices) left) ≡ factors most_steps standard_radices n

pub taking_none : (n : ℕ) → Taking n 0 [] n
taking_none n = record { whole = omega arith; rest = onto_none (factors most_steps standard_radices n) }

module _ (n i : ℕ) (taken : List ℕ) (left : ℕ) (t : Taking n i taken left) (h : i < length standard_radices) (few : length taken ≤ most_radices) where
  -- one step, which is never the last that is allowed
  step : factors (most_steps - (length taken + i)) (drop i standard_radices) left
      ≡ factors (suc (most_steps - (length taken + i + 1))) (get_or standard_radices i 0 ∷ drop (i + 1) standard_radices) left
  step =
      let more : most_steps - (length taken + i) ≡ suc (most_steps - (length taken + i + 1)) = omega arith in
      ap (λ k. factors k (drop i standard_radices) left) more
      ∙ at_drop_more (λ rs. factors (suc (most_steps - (length taken + i + 1))) rs left) standard_radices i 0 h

  pub taking_next : (left % get_or standard_radices i 0 ≡ 0 → ⊥) → Taking n (i + 1) taken left
  taking_next not =
      let same : length taken + i + 1 ≡ length taken + (i + 1) = omega arith in
      record {
        whole = t.whole;
        rest =
            sym (ap (onto taken) (step ∙ cond-false _ _ _ (ne_eqb (left % get_or standard_radices i 0) 0 not) ∙ ap (λ k. factors (most_steps - k) (drop (i + 1) standard_radices) left) same))
            ∙ t.rest;
      }

  pub taking_more : left % get_or standard_radices i 0 ≡ 0 → Taking n i (taken ++ get_or standard_radices i 0 ∷ []) (left / get_or standard_radices i 0)
  taking_more divides =
      let r = get_or standard_radices i 0 in
      let long = length_push taken r in
      let same : length taken + i + 1 ≡ length (taken ++ r ∷ []) + i = omega arith in
      let back : drop i standard_radices ≡ r ∷ drop (i + 1) standard_radices = at_drop_more (λ rs. rs) standard_radices i 0 h in
      let k = most_steps - (length taken + i + 1) in
      let product : r * (left / r) ≡ left = omega (arith, div-add-mod' left r) in
      record {
        whole = ap (λ s. s * (left / r)) (size_push taken r) ∙ mul_assoc (size taken) r (left / r) ∙ ap (λ x. size taken * x) product ∙ t.whole;
        rest =
            sym
            (ap (onto taken) (step ∙ cond-true _ _ _ (eq-eqb (left % r) 0 divides))
            ∙ onto_push taken r (factors k (r ∷ drop (i + 1) standard_radices) (left / r))
            ∙ ap (λ rs. onto (taken ++ r ∷ []) (factors k rs (left / r))) (sym back)
            ∙ ap (λ s. onto (taken ++ r ∷ []) (factors (most_steps - s) (drop i standard_radices) (left / r))) same)
            ∙ t.rest;
      }

module _ (n i : ℕ) (taken : List ℕ) (left : ℕ) (t : Taking n i taken left) where
  pub some_left : 0 < n → 0 < left
  some_left pos = let whole = t.whole in right_positive (size taken) left (omega arith)

  -- a radix that divides what is left fits into the largest size
  pub taken_fits : (r : ℕ) → 0 < n → n ≤ largest_size → left % r ≡ 0 → size taken * r ≤ largest_size
  taken_fits r pos small divides =
      let less : r ≤ left = le_of_dvd (some_left pos) (dvd_of_mod-eq-zero r divides) in
      omega (arith, t.whole, mul-le-mul_left (size taken) less)

  ended : length standard_radices ≤ i → onto taken (cond (eqb left 1) (Some []) None) ≡ factors most_steps standard_radices n
  ended end = ap (onto taken) (sym (at_drop_all (λ rs. factors (most_steps - (length taken + i)) rs left) standard_radices i end)) ∙ t.rest

  pub taking_all : length standard_radices ≤ i → left ≡ 1 → factors most_steps standard_radices n ≡ Some taken
  taking_all end one =
      sym (ended end) ∙ ap (onto taken) (cond-true _ _ _ (eq-eqb left 1 one)) ∙ ap Some (append-nil taken)

  pub taking_fails : length standard_radices ≤ i → 1 < left → factors most_steps standard_radices n ≡ None
  taking_fails end more =
      sym (ended end) ∙ ap (onto taken) (cond-false _ _ _ (ne_eqb left 1 (λ e. omega arith)))

pub standard_outside : (n : ℕ) → (n ≡ 0) ⊎ (largest_size < n) → standard n ≡ Err (Length n)
standard_outside n out =
    let test : (leb 1 n && leb n largest_size) ≡ false = grind (arith, nat_tests) in
    cond-false _ _ _ test

pub standard_inside : (n : ℕ) → 0 < n → n ≤ largest_size → standard n ≡ ok_or (factors most_steps standard_radices n) (Length n)
standard_inside n pos small =
    let test : (leb 1 n && leb n largest_size) ≡ true = grind (arith, nat_tests) in
    cond-true _ _ _ test

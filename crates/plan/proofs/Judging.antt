-- The refusals of a list of radices are those that its words call for.
use Rattle.std.proofs.Common.{◌≡◌, ℕ, zero, suc, ◌+◌, ◌*◌, ◌<◌, ◌≤◌, true, false, leb, ◌⊎◌, List, [], ◌∷◌, length, get_or, take, Ok, Err, Result, sym, refl, ap, ◌∙◌, subst, ⊎_elim, add-zero, mul_assoc, zero-add, add-one, arith}
use Rattle.std.specs.Result.{result_and}
use Rattle.std.proofs.lemmas.Bool.{cond_both, cases_Bool, cond-true, cond-false, leb-true, leb-false}
use Rattle.std.proofs.lemmas.Bool.Decides.{nat_tests}
use Rattle.plan.specs.declared.fault.PlanFault.{PlanFault}
use Rattle.plan.specs.declared.fault.PlanFault.TheVariants.{Radix, Product}
use Rattle.plan.specs.Radices.{size, most_radices, least_radix, largest_radix, largest_size, Each, Plan}
use Rattle.plan.specs.Planned.{in_limits, ranged, product, planned}
use Rattle.plan.specs.Judged.{Judged}
use Rattle.plan.proofs.Scans.{ranged_each, product_size}

err_same : {X : Type 0} {f g : PlanFault} → ◌≡◌ {A = Result X PlanFault} (Err f) (Err g) → f ≡ g
err_same e = cc

-- the refusal f of a list that begins with radix i: its radix k is the first that is out of its limits
record Outside (i : ℕ) (rs : List ℕ) (f : PlanFault) : Type 0 where
  k : ℕ
  is : f ≡ Radix (i + k)
  there : k < length rs
  before : Each (take k rs)
  outside : (get_or rs k 0 < least_radix) ⊎ (largest_radix < get_or rs k 0)

each_more : (r : ℕ) (rs : List ℕ) → in_limits r ≡ true → Each rs → Each (r ∷ rs)
each_more r rs inside each zero h = grind (arith, nat_tests)
each_more r rs inside each (suc i) h = each i (omega arith)

outside_later : (i r : ℕ) (rs : List ℕ) (f : PlanFault) → in_limits r ≡ true → Outside (i + 1) rs f → Outside i (r ∷ rs) f
outside_later i r rs f b o =
    let next : i + 1 + o.k ≡ i + suc o.k = omega arith in
    record {
      k = suc o.k;
      is = o.is ∙ ap Radix next;
      there = omega (arith, o.there);
      before = each_more r (take o.k rs) b o.before;
      outside = o.outside;
    }

outside_here : (i r : ℕ) (rs : List ℕ) → in_limits r ≡ false → Outside i (r ∷ rs) (Radix i)
outside_here i r rs b =
    record {
      k = 0;
      is = ap Radix (sym (add-zero i));
      there = omega arith;
      before = λ k h. absurd (omega arith);
      outside = grind (arith, nat_tests);
    }

ranged_refuses : (i : ℕ) (rs : List ℕ) (f : PlanFault) → Err f ≡ ranged i rs → Outside i rs f
ranged_refuses i [] f e = let z : ◌≡◌ {A = ℕ} 0 1 = cc in absurd (omega arith)
ranged_refuses i (r ∷ rs) f e =
    ⊎_elim
    (λ b. outside_later i r rs f b (ranged_refuses (i + 1) rs f (e ∙ cond-true _ _ _ b)))
    (λ b. subst (Outside i (r ∷ rs)) (err_same (sym (e ∙ cond-false _ _ _ b))) (outside_here i r rs b))
    (cases_Bool (in_limits r))

-- the refusal f of a list that begins with radix i, where those before it have the product n: at its radix k the product passes
record Passing (n i : ℕ) (rs : List ℕ) (f : PlanFault) : Type 0 where
  k : ℕ
  is : f ≡ Product (i + k)
  there : k < length rs
  before : n * size (take k rs) ≤ largest_size
  passes : largest_size < n * size (take (suc k) rs)

passing_later : (n i r : ℕ) (rs : List ℕ) (f : PlanFault) → Passing (n * r) (i + 1) rs f → Passing n i (r ∷ rs) f
passing_later n i r rs f p =
    let next : i + 1 + p.k ≡ i + suc p.k = omega arith in
    record {
      k = suc p.k;
      is = p.is ∙ ap Product next;
      there = omega (arith, p.there);
      before = omega (arith, p.before, mul_assoc n r (size (take p.k rs)));
      passes = omega (arith, p.passes, mul_assoc n r (size (take (suc p.k) rs)));
    }

passing_here : (n i r : ℕ) (rs : List ℕ) → n ≤ largest_size → largest_size < n * r → Passing n i (r ∷ rs) (Product i)
passing_here n i r rs low high =
    record {
      k = 0;
      is = ap Product (sym (add-zero i));
      there = omega arith;
      before = omega arith;
      passes = omega (arith, mul_assoc n r 1);
    }

product_refuses : (n i : ℕ) (rs : List ℕ) (f : PlanFault) → n ≤ largest_size → Err f ≡ product n i rs → Passing n i rs f
product_refuses n i [] f low e = let z : ◌≡◌ {A = ℕ} 0 1 = cc in absurd (omega arith)
product_refuses n i (r ∷ rs) f low e =
    ⊎_elim
    (λ b. passing_later n i r rs f (product_refuses (n * r) (i + 1) rs f (leb-true (n * r) largest_size b) (e ∙ cond-true _ _ _ b)))
    (λ b. subst (Passing n i (r ∷ rs)) (err_same (sym (e ∙ cond-false _ _ _ b))) (passing_here n i r rs low (leb-false (n * r) largest_size b)))
    (cases_Bool (leb (n * r) largest_size))

judged_granted : (rs : List ℕ) (m : ℕ) → length rs ≤ most_radices → Ok tt ≡ ranged 0 rs → Ok m ≡ product 1 0 rs → Plan rs
judged_granted rs m few range all =
    let size_is = product_size 1 0 rs m (omega arith) all in
    record { few = few; each = ranged_each 0 rs range; small = omega (arith, size_is.0, size_is.1) }

judge : (rs : List ℕ) (a : Result (Unit {0}) PlanFault) (b : Result ℕ PlanFault) → length rs ≤ most_radices → a ≡ ranged 0 rs → b ≡ product 1 0 rs → Judged rs (result_and a (result_and b (Ok rs)))
judge rs (Ok tt) (Ok m) few range all = (refl, judged_granted rs m few range all)
judge rs (Ok tt) (Err f) few range all =
    let p = product_refuses 1 0 rs f (omega arith) all in
    subst (λ x. Judged rs (Err x)) (sym (p.is ∙ ap Product (zero-add p.k)))
    record {
      few = few;
      each = ranged_each 0 rs range;
      there = p.there;
      before = omega (arith, p.before);
      passes = rw add-one (omega (arith, p.passes));
    }
judge rs (Err f) b few range all =
    let o = ranged_refuses 0 rs f range in
    subst (λ x. Judged rs (Err x)) (sym (o.is ∙ ap Radix (zero-add o.k)))
    record { few = few; there = o.there; before = o.before; outside = o.outside }

pub planned_judged : (rs : List ℕ) → Judged rs (planned rs)
planned_judged rs =
    cond_both (leb (length rs) most_radices) _ _ (Judged rs)
    (λ e. judge rs (ranged 0 rs) (product 1 0 rs) (leb-true (length rs) most_radices e) refl refl)
    (λ e. leb-false (length rs) most_radices e)

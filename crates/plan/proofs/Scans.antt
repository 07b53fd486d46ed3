-- The refusals of a list of radices, one radix at a time.
use Rattle.std.proofs.Common.{◌≡◌, ℕ, zero, suc, ◌+◌, ◌*◌, ◌≤◌, true, List, [], ◌∷◌, length, Ok, sym, ap, ◌∙◌, mul_assoc, arith}
use Rattle.std.proofs.lemmas.Bool.{cond-true, le-leb}
use Rattle.std.proofs.lemmas.Bool.Decides.{nat_tests}
use Rattle.std.specs.Result.{result_and}
use Rattle.plan.specs.Radices.{size, most_radices, largest_size, Each}
use Rattle.plan.specs.Planned.{in_limits, ranged, product, planned}

-- every radix of a list that is not refused is in its limits
pub ranged_each : (i : ℕ) (rs : List ℕ) → Ok tt ≡ ranged i rs → Each rs
ranged_each i [] e k h = absurd (omega arith)
ranged_each i (r ∷ rs) e zero h = grind (arith, nat_tests)
ranged_each i (r ∷ rs) e (suc k) h =
    let inside : in_limits r ≡ true = grind (arith, nat_tests) in
    ranged_each (i + 1) rs (e ∙ cond-true _ _ _ inside) k (omega arith)

-- what a list that is not refused multiplies to
pub product_size : (n i : ℕ) (rs : List ℕ) (m : ℕ) → n ≤ largest_size → Ok m ≡ product n i rs → (m ≡ n * size rs) × (m ≤ largest_size)
product_size n i [] m low e = let same : n ≡ m = cc in (omega arith, omega arith)
product_size n i (r ∷ rs) m low e =
    let within : n * r ≤ largest_size = grind (arith, nat_tests) in
    let rest = product_size (n * r) (i + 1) rs m within (e ∙ cond-true _ _ _ (le-leb (n * r) largest_size within)) in
    (omega (arith, rest.0, mul_assoc n r (size rs)), rest.1)

pub planned_granted : (rs : List ℕ) (m : ℕ) → length rs ≤ most_radices → Ok tt ≡ ranged 0 rs → Ok m ≡ product 1 0 rs → planned rs ≡ Ok rs
planned_granted rs m few range all =
    cond-true _ _ _ (le-leb (length rs) most_radices few)
    ∙ ap (λ x. result_and x (result_and (product 1 0 rs) (Ok rs))) (sym range)
    ∙ ap (λ x. result_and x (Ok rs)) (sym all)

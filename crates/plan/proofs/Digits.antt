-- The digits of a sample, and the place that they give.
use Rattle.std.proofs.Common.{◌≡◌, ℕ, ◌+◌, ◌*◌, ◌/◌, ◌%◌, ◌<◌, List, [], ◌∷◌, sym, refl, ap, ◌∙◌, arith}
use native.Mathlib.Nat.{mul-div_right}
use Rattle.std.proofs.lemmas.Nat.{div-add-mod', div-mul-add, mod-mul-add, mod_below}
use Rattle.plan.specs.Radices.{size, Plan}
use Rattle.plan.specs.Dealing.{place, source}
use Rattle.plan.specs.ByPlaces.{Digits, sample_of, place_among, ByPlaces}
use Rattle.plan.proofs.Sizes.{left_positive, right_positive, plan_size_positive}
use Rattle.plan.proofs.Places.{place_below, place_injective, place_source, source_below, quotient_below}
use Rattle.plan.proofs.Deals.{length_dealt, dealt_at}

pub digits_of : (rs : List ℕ) → 0 < size rs → (n : ℕ) → n < size rs → (qs : List ℕ) × Digits rs qs × (sample_of rs qs ≡ n)
digits_of [] pos n h = ([], tt, omega arith)
digits_of (r ∷ rs) pos n h =
    let rest = digits_of rs (right_positive r (size rs) pos) (n / r) (quotient_below n r (size rs) pos h) in
    let scaled : r * sample_of rs rest.0 ≡ r * (n / r) = ap (λ x. r * x) rest.2 in
    (n % r ∷ rest.0, (mod_below n r (left_positive r (size rs) pos), rest.1), omega (arith, scaled, div-add-mod' n r))

pub place_by_digits : (rs qs : List ℕ) → Digits rs qs → place rs (sample_of rs qs) ≡ place_among (size rs) rs qs
place_by_digits [] [] d = refl
place_by_digits [] (q ∷ qs) d = absurd d
place_by_digits (r ∷ rs) [] d = absurd d
place_by_digits (r ∷ rs) (q ∷ qs) d =
    let m = sample_of rs qs in
    let len = size rs in
    let swap : q + r * m ≡ m * r + q = omega arith in
    let first : (q + r * m) % r ≡ q = ap (λ x. x % r) swap ∙ mod-mul-add m r q d.0 in
    let others : (q + r * m) / r ≡ m = ap (λ x. x / r) swap ∙ div-mul-add m r q d.0 in
    let part : r * len / r ≡ len = mul-div_right len (omega (arith, d.0)) in
    ap (λ x. x * len + place rs ((q + r * m) / r)) first
    ∙ ap (λ x. q * len + place rs x) others
    ∙ ap (λ x. q * len + x) (place_by_digits rs qs d.1)
    ∙ ap (λ x. q * x + place_among x rs qs) (sym part)

pub by_places : (A : Type 0) (rs : List ℕ) → Plan rs → ByPlaces A rs
by_places A rs plan =
    let pos = plan_size_positive rs plan in
    record {
      digits = digits_of rs pos;
      formula = place_by_digits rs;
      within = λ n h. place_below rs pos n;
      once = place_injective rs pos;
      reached = λ p h. (source rs p, source_below rs pos p h, place_source rs pos p h);
      long = λ d a l. length_dealt d rs a l;
      dealt_there = λ d. dealt_at d rs pos;
    }

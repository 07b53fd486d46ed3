-- The least index at which f is largest, one index at a time.
use Rattle.std.proofs.Common.{◌≡◌, ℕ, zero, suc, ◌+◌, ◌<◌, ◌≤◌, Bool, true, false, cond, ℤ, ◌≤ℤ◌, ◌<ℤ◌, sym, refl, ap, ◌∙◌, ⊎_elim, eq-or-lt_of_le, add-one, arith}
use lib.Signed.{lt_z}
use Rattle.std.proofs.lemmas.Int.{ints}
use Rattle.matching.specs.Lags.{best, LeastBest}

chosen : (t : Bool) (n k : ℕ) → k ≤ n → cond t n k ≤ n
chosen true n k h = omega arith
chosen false n k h = h

best_within : (f : ℕ → ℤ) (n : ℕ) → best f n ≤ n
unfolding best
best_within f zero = omega arith
best_within f (suc n) = let low = chosen (lt_z (f (best f n)) (f n)) n (best f n) (best_within f n) in omega arith

best_below : (f : ℕ → ℤ) (n : ℕ) → 0 < n → best f n < n
unfolding best
best_below f zero h = absurd (omega arith)
best_below f (suc n) h = let low = chosen (lt_z (f (best f n)) (f n)) n (best f n) (best_within f n) in omega arith

best_one : (f : ℕ → ℤ) → 0 ≡ best f 1
best_one f = let low = best_below f 1 (omega arith) in omega arith

best_takes : (f : ℕ → ℤ) (n : ℕ) → lt_z (f (best f n)) (f n) ≡ true → n ≡ best f (n + 1)
unfolding best
best_takes f n more = sym (ap (best f) (add-one n) ∙ rw more)

best_keeps : (f : ℕ → ℤ) (n : ℕ) → lt_z (f (best f n)) (f n) ≡ false → best f n ≡ best f (n + 1)
unfolding best
best_keeps f n none = sym (ap (best f) (add-one n) ∙ rw none)

pub best_same : (f g : ℕ → ℤ) (n : ℕ) → ((k : ℕ) → k < n → f k ≡ g k) → best f n ≡ best g n
unfolding best
best_same f g zero same = refl
best_same f g (suc n) same =
    let before = best_same f g n (λ k h. same k (omega arith)) in
    let low = best_within g n in
    rw (before, same n (omega arith), same (best g n) (omega arith))

-- ---- it is the least of the largest
abbrev Leads : (ℕ → ℤ) → ℕ → ℕ → Type 0
Leads f n b = ((j : ℕ) → j < n → f j ≤ℤ f b) × ((j : ℕ) → j < b → f j <ℤ f b)

at_most_self : (z : ℤ) → z ≤ℤ z
at_most_self z = omega (arith, ints)

or_last : (f : ℕ → ℤ) (n b : ℕ) → ((j : ℕ) → j < n → f j ≤ℤ f b) → f n ≤ℤ f b → (j : ℕ) → j < suc n → f j ≤ℤ f b
or_last f n b before last j h =
    let low : j ≤ n = omega arith in
    ⊎_elim (λ (same : j ≡ n). rw same last) (λ (less : j < n). before j less) (eq-or-lt_of_le low)

leads_more : (f : ℕ → ℤ) (n b : ℕ) (t : Bool) → lt_z (f b) (f n) ≡ t → Leads f n b → Leads f (suc n) (cond t n b)
leads_more f n b true more so_far =
    let less : (j : ℕ) → j < n → f j <ℤ f n = λ j h. let le = so_far.0 j h in omega (arith, ints) in
    (or_last f n n (λ j h. let lt = less j h in omega (arith, ints)) (at_most_self (f n)), less)
leads_more f n b false none so_far = (or_last f n b so_far.0 (omega (arith, ints)), so_far.1)

leads : (f : ℕ → ℤ) (n : ℕ) → Leads f n (best f n)
unfolding best
leads f zero = (λ j h. absurd (omega arith), λ j h. absurd (omega arith))
leads f (suc n) = leads_more f n (best f n) (lt_z (f (best f n)) (f n)) refl (leads f n)

pub least_best : (f : ℕ → ℤ) (n : ℕ) → 0 < n → LeastBest f n (best f n)
least_best f n some = let so = leads f n in record { below = best_below f n some; largest = so.0; least = so.1 }

-- ---- with the largest so far
module _ (f : ℕ → ℤ) where
  pub record Largest (i b : ℕ) (most : ℤ) : Type 0 where
    pub is : b ≡ best f i
    pub value : most ≡ f b

  pub largest_one : (most : ℤ) → most ≡ f 0 → Largest 1 0 most
  largest_one most first = record { is = best_one f; value = first }

  module _ (i b : ℕ) (most next : ℤ) (so_far : Largest i b most) (here : next ≡ f i) where
    compared : (t : Bool) → lt_z most next ≡ t → lt_z (f (best f i)) (f i) ≡ t
    compared t test = rw (so_far.value ∙ ap f so_far.is, here) at test

    pub largest_takes : lt_z most next ≡ true → Largest (i + 1) i next
    largest_takes more = record { is = best_takes f i (compared true more); value = here }

    pub largest_keeps : lt_z most next ≡ false → Largest (i + 1) b most
    largest_keeps none = record { is = so_far.is ∙ best_keeps f i (compared false none); value = so_far.value }

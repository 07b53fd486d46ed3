-- Sums over a full circle of places: they stay where the places go on round the circle, or are mirrored.
use mathlib.Core.Path.{◌≡◌, ap, refl, sym, ◌∙◌, ◌≡⟨◌⟩◌, ◌∎}
use Prim.Native.Nat.{ℕ, zero, suc, ◌+◌, ◌-◌, ◌%◌, ◌<◌, ◌≤◌}
use native.Mathlib.Nat.{mod-eq_of_lt, add-mod_left}
use native.Mathlib.Omega.{arith}
use Rattle.arithmetic.specs.Meaning.{Meaning}
use Rattle.arithmetic.proofs.Ladder.{ExactLaws}
use Rattle.arithmetic.proofs.Totals.{total, total_same, total_append}

-- the places before and past the end of the circle, after s places on
still_before : (v s n : ℕ) → v < n - s → (v + s) % n ≡ s + v
still_before v s n h = let less : v + s < n = omega arith in mod-eq_of_lt less ∙ omega arith

once_round : (j s n : ℕ) → s ≤ n → j < s → ((n - s) + j + s) % n ≡ j
once_round j s n h l =
    let past : (n - s) + j + s ≡ n + j = omega arith in
    let less : j < n = omega arith in
    ap (λ x. x % n) past ∙ add-mod_left n j ∙ mod-eq_of_lt less

module _ {A R : Type 0} {m : Meaning A R} (law : ExactLaws m) where
  -- the circle is cut at n - s, and the two pieces change places
  pub total_shifted : (f : ℕ → A) (n s : ℕ) → s ≤ n → total m (λ v. f ((v + s) % n)) n ≡ total m f n
  total_shifted f n s h =
      let g : ℕ → A = λ v. f ((v + s) % n) in
      let first : total m g (n - s) ≡ total m (λ v. f (s + v)) (n - s) = total_same law (n - s) (λ v l. ap f (still_before v s n l)) in
      let second : total m (λ j. g ((n - s) + j)) s ≡ total m f s = total_same law s (λ j l. ap f (once_round j s n h l)) in
      let cut : n ≡ (n - s) + s = omega arith in
      let joint : s + (n - s) ≡ n = omega arith in
      total m g n ≡⟨ ap (total m g) cut ∙ total_append law g (n - s) s ⟩
      m.sum (total m g (n - s)) (total m (λ j. g ((n - s) + j)) s) ≡⟨ ap (λ x. m.sum x (total m (λ j. g ((n - s) + j)) s)) first ∙ ap (m.sum _) second ⟩
      m.sum (total m (λ v. f (s + v)) (n - s)) (total m f s) ≡⟨ law.exact.sum_comm _ _ ⟩
      m.sum (total m f s) (total m (λ v. f (s + v)) (n - s)) ≡⟨ sym (total_append law f s (n - s)) ∙ ap (total m f) joint ⟩
      total m f n ∎

  total_first : (f : ℕ → A) (n : ℕ) → total m f (suc n) ≡ m.sum (f 0) (total m (λ j. f (suc j)) n)
  unfolding total
  total_first f zero = law.exact.sum_comm m.zero (f 0)
  total_first f (suc n) = ap (λ x. m.sum x (f (suc n))) (total_first f n) ∙ law.exact.sum_assoc (f 0) (total m (λ j. f (suc j)) n) (f (suc n))

  total_reversed : (f : ℕ → A) (n : ℕ) → total m (λ j. f (n - suc j)) n ≡ total m f n
  unfolding total
  total_reversed f zero = refl
  total_reversed f (suc n) =
      let down : (j : ℕ) → j < n → suc n - suc j ≡ suc (n - suc j) = λ j l. omega arith in
      let last : suc n - suc n ≡ 0 = omega arith in
      m.sum (total m (λ j. f (suc n - suc j)) n) (f (suc n - suc n)) ≡⟨ ap (λ x. m.sum x (f (suc n - suc n))) (total_same law n (λ j l. ap f (down j l))) ⟩
      m.sum (total m (λ j. f (suc (n - suc j))) n) (f (suc n - suc n)) ≡⟨ ap (λ x. m.sum x (f (suc n - suc n))) (total_reversed (λ j. f (suc j)) n) ⟩
      m.sum (total m (λ j. f (suc j)) n) (f (suc n - suc n)) ≡⟨ ap (λ x. m.sum (total m (λ j. f (suc j)) n) (f x)) last ∙ law.exact.sum_comm _ (f 0) ⟩
      m.sum (f 0) (total m (λ j. f (suc j)) n) ≡⟨ sym (total_first f n) ⟩
      total m f (suc n) ∎

  -- taken in reverse, and one place on
  pub total_mirrored : (f : ℕ → A) (n : ℕ) → 0 < n → total m (λ t. f ((n - t) % n)) n ≡ total m f n
  total_mirrored f n pos =
      let up : (t : ℕ) → t < n → n - t ≡ n - suc t + 1 = λ t l. omega arith in
      total m (λ t. f ((n - t) % n)) n ≡⟨ total_same law n (λ t l. ap (λ x. f (x % n)) (up t l)) ⟩
      total m (λ t. f ((n - suc t + 1) % n)) n ≡⟨ total_reversed (λ v. f ((v + 1) % n)) n ⟩
      total m (λ v. f ((v + 1) % n)) n ≡⟨ total_shifted f n 1 pos ⟩
      total m f n ∎

-- A list in which each element is one step on from the last, as a table of powers is. Assumes nothing.
use Rattle.std.proofs.Common.{◌≡◌, ℕ, zero, suc, ◌+◌, ◌<◌, List, [], ◌∷◌, get_or, sym, ap, ◌∙◌, add-zero, zero-add, arith}

-- n elements: x, then one step on each time
abbrev pub iterated : {A : Type 0} → (A → A) → A → ℕ → List A
iterated step x zero = []
iterated step x (suc n) = x ∷ iterated step (step x) n

module _ {A : Type 0} (step : A → A) (g : ℕ → A) (more : (e : ℕ) → g (suc e) ≡ step (g e)) (d : A) where
  at_from : (n i k : ℕ) → i < n → get_or (iterated step (g k) n) i d ≡ g (k + i)
  at_from zero i k h = absurd (omega arith)
  at_from (suc n) zero k h = ap g (sym (add-zero k))
  at_from (suc n) (suc i) k h =
      let onward : suc k + i ≡ k + suc i = omega arith in
      ap (λ x. get_or (iterated step x n) i d) (sym (more k)) ∙ at_from n i (suc k) (omega arith) ∙ ap g onward

  -- a table that is such a list holds g at each of its places
  pub at_iterated : (table : List A) (n : ℕ) → table ≡ iterated step (g 0) n → (place : ℕ) → place < n → get_or table place d ≡ g place
  at_iterated table n is place h = ap (λ xs. get_or xs place d) is ∙ at_from n place 0 h ∙ ap g (zero-add place)

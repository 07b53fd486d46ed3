-- The ordered sum, one term at a time.
use mathlib.Core.Path.{◌≡◌, ap, refl, ◌∙◌}
use Prim.Native.Nat.{ℕ, zero, suc, ◌+◌, ◌<◌}
use native.Mathlib.Numerals.{add-one}
use native.Mathlib.Nat.{not-suc-le-zero}
use native.Mathlib.Omega.{arith}
use Rattle.arithmetic.specs.Meaning.{Meaning}
use Rattle.arithmetic.specs.Series.{series}

module _ {A R : Type 0} (m : Meaning A R) where
  pub series_one : (f : ℕ → A) → series m f 1 ≡ f 0
  unfolding series
  series_one f = refl

  pub series_suc : (f : ℕ → A) (n : ℕ) → 0 < n → series m f (suc n) ≡ m.sum (series m f n) (f n)
  unfolding series
  series_suc f zero p = absurd (not-suc-le-zero p)
  series_suc f (suc n) p = refl

  pub series_more : (f : ℕ → A) (n : ℕ) → 0 < n → series m f (n + 1) ≡ m.sum (series m f n) (f n)
  series_more f n p = ap (series m f) (add-one n) ∙ series_suc f n p

  pub series_same : (f g : ℕ → A) (n : ℕ) → ((q : ℕ) → q < n → f q ≡ g q) → series m f n ≡ series m g n
  unfolding series
  series_same f g zero h = refl
  series_same f g (suc zero) h = h 0 (omega arith)
  series_same f g (suc (suc n)) h =
      ap (λ x. m.sum x (f (suc n))) (series_same f g (suc n) (λ q l. h q (omega arith)))
      ∙ ap (m.sum (series m g (suc n))) (h (suc n) (omega arith))

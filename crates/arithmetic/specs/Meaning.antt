-- What an arithmetic means: its operations on its values. Assumes nothing.
--
-- element  plain words, as they lie in a buffer, under no invariant
-- value    an element with its words reduced
-- span     how many turns make a full circle
-- exact    the sum is a true sum and turns go round a circle
-- full     exact, with a product and a part
use Rattle.std.specs.Prelude.{Bool, ℕ}

pub record Meaning (A R : Type 0) : Type 0 where
  pub value : A → A
  pub zero : A
  pub sum : A → A → A
  pub difference : A → A → A
  pub turn : A → ℕ → A
  pub product : A → A → A
  pub part : A → ℕ → A
  pub reading : A → R
  pub span : ℕ
  pub exact : Bool
  pub full : Bool

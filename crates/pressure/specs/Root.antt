-- What holds of the root by itself; that its turns keep the laws is a law of the arithmetic.
use Rattle.std.specs.Prelude.{◌≡◌, ℕ, ◌/◌}
use Rattle.arithmetic.specs.Laws.{Prime, Divides}
use Rattle.pressure.specs.Pressures.{span, power}

-- the span is its order: the power by the span is 1, and by the span's part by a prime it is not
pub record Order : Type 0 where
  pub round : power span ≡ 1
  pub no_sooner : (q : ℕ) → Prime q → Divides q span → power (span / q) ≡ 1 → ⊥

use Rattle.std.proofs.Common.{◌≡◌, ℕ, ◌/◌, refl, lit<, arith}
use Rattle.algebra.proofs.Primes.{at_primes}
use Rattle.arithmetic.specs.Laws.{Prime, Divides}
use Rattle.pressure.specs.Pressures.{span, power}
use Rattle.pressure.specs.Laws.{primes, tested}
use Rattle.pressure.proofs.root_stands.Goals as goal

no_sooner : (q : ℕ) → Prime q → Divides q span → power (span / q) ≡ 1 → ⊥
no_sooner =
    at_primes span primes (lit< tt) tested (λ q. power (span / q) ≡ 1 → ⊥) (λ e. omega arith, (λ e. omega arith, (λ e. omega arith, tt)))

pub returns : goal.returns
returns c = record { answer = record { round = refl; no_sooner = no_sooner } }

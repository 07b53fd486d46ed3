use Rattle.std.proofs.Common.{◌≡◌, ℕ, ◌/◌, false, ◌==◌, ◌≢◌, ap, refl, lit<}
use Rattle.std.proofs.lemmas.Bool.{eqb-false}
use Rattle.algebra.proofs.Primes.{at_primes}
use Rattle.arithmetic.specs.Laws.{Prime, Divides}
use Rattle.path.specs.declared.Path.{Path}
use Rattle.path.specs.Paths.{span, residue, power}
use Rattle.path.specs.Laws.{primes, tested, power_round}
use Rattle.path.proofs.root_stands.Goals as goal

-- elements with other first words
apart : (a b : Path) → (a.u == b.u) ≡ false → a ≢ b
apart a b other e = eqb-false a.u b.u other (ap (λ (x : Path). x.u) e)

no_sooner : (q : ℕ) → Prime q → Divides q span → power (span / q) ≢ residue 1 0
unfolding power
no_sooner = at_primes span primes (lit< tt) tested (λ q. power (span / q) ≢ residue 1 0) (apart _ _ refl, (apart _ _ refl, tt))

pub returns : goal.returns
returns c = record { answer = record { round = power_round; no_sooner = no_sooner } }

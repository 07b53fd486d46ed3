-- The laws of an exact arithmetic, and of a full one, each with those below it on the ladder.
use mathlib.Core.Path.{◌≡◌}
use mathlib.Core.Bool.{true}
use Rattle.arithmetic.specs.Meaning.{Meaning}
use Rattle.arithmetic.specs.Laws.{Every, Exact, Full, Lawful}

pub record ExactLaws {A R : Type 0} (m : Meaning A R) : Type 0 where
  pub every : Every m
  pub exact : Exact m

pub record FullLaws {A R : Type 0} (m : Meaning A R) : Type 0 where
  pub exactly : ExactLaws m
  pub full : Full m

pub exact_laws : {A R : Type 0} {m : Meaning A R} → Lawful m → m.exact ≡ true → ExactLaws m
exact_laws law is = record { every = law.every; exact = law.when_exact is }

pub full_laws : {A R : Type 0} {m : Meaning A R} → Lawful m → m.full ≡ true → FullLaws m
full_laws law is = record { exactly = exact_laws law (law.full_is_exact is); full = law.when_full is }

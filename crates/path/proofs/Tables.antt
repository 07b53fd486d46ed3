-- The two tables hold the root's powers: each is compared, whole, with the list that goes on from (1, 0) by one factor.
use Rattle.std.proofs.Common.{◌≡◌, ℕ, zero, suc, ◌*◌, ◌/◌, ◌<◌, List, get_or, sym, refl, subst, mod-lt, lit<}
use Rattle.algebra.proofs.Iterated.{iterated}
use Rattle.rooted.specs.Powers.{step}
use Rattle.rooted.proofs.Tables as tables
use Rattle.path.specs.declared.Path.{Path}
use Rattle.path.specs.Paths.{modulus, span, root, times, power, paths}
use Rattle.path.specs.Laws.{rooted}

abbrev parts : Path → ℕ × ℕ
parts a = (a.u, a.v)

abbrev joined : ℕ × ℕ → Path
joined x = record { u = x.0; v = x.1 }

-- times a factor
abbrev by : Path → ℕ × ℕ → ℕ × ℕ
by w x = parts (times (joined x) w)

pub low_powers : (table : List (ℕ × ℕ)) → table ≡ iterated (by root) (1, 0) step → (place : ℕ) → place < step → joined (get_or table place (0, 0)) ≡ power place
unfolding power
low_powers table = tables.low_powers paths power rooted joined parts (λ a. refl) (0, 0) table step

pub high_powers : (table : List (ℕ × ℕ)) → table ≡ iterated (by (power step)) (1, 0) (span / step) → (place : ℕ) → place < span / step → joined (get_or table place (0, 0)) ≡ power (step * place)
unfolding power
high_powers table = tables.high_powers paths power rooted joined parts (λ a. refl) step (0, 0) table (span / step)

-- both words are below the modulus
Below : Path → Type 0
Below a = (a.u < modulus) × (a.v < modulus)

power_below : (e : ℕ) → Below (power e)
unfolding power Below
power_below zero = (lit< tt, lit< tt)
power_below (suc e) = (mod-lt _ (lit< tt), mod-lt _ (lit< tt))

pub below : {u v : ℕ} (e : ℕ) → ◌≡◌ {A = Path} (record { u = u; v = v }) (power e) → (u < modulus) × (v < modulus)
unfolding Below
below e is = subst Below (sym is) (power_below e)

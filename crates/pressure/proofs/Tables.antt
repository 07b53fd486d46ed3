-- The two tables hold the root's powers: each is compared, whole, with the list that goes on from 1 by one factor.
use Rattle.std.proofs.Common.{◌≡◌, ℕ, ◌*◌, ◌/◌, ◌%◌, ◌^◌, ◌<◌, List, get_or, sym, refl, subst, mod-lt, lit<}
use Rattle.algebra.proofs.Iterated.{iterated}
use Rattle.rooted.specs.Powers.{step}
use Rattle.rooted.proofs.Tables as tables
use Rattle.pressure.specs.declared.Pressure.{Pressure}
use Rattle.pressure.specs.Pressures.{modulus, span, root, counted, power, powers, pressures}
use Rattle.pressure.specs.Laws.{rooted}

-- times a factor
abbrev by : ℕ → ℕ → ℕ
by w x = (x * w) % modulus

pub low_powers : (table : List ℕ) → table ≡ iterated (by (power 1)) 1 step → (place : ℕ) → place < step → counted (get_or table place 0) ≡ powers place
low_powers table = tables.low_powers pressures powers rooted counted (λ a. a.word) (λ a. refl) 0 table step

pub high_powers : (table : List ℕ) → table ≡ iterated (by (power step)) 1 (span / step) → (place : ℕ) → place < span / step → counted (get_or table place 0) ≡ powers (step * place)
high_powers table = tables.high_powers pressures powers rooted counted (λ a. a.word) (λ a. refl) step 0 table (span / step)

pub below : {x : ℕ} (e : ℕ) → counted x ≡ powers e → x < modulus
below e is = subst (λ (a : Pressure). a.word < modulus) (sym is) (mod-lt (root ^ e) (lit< tt))

-- Dealing: the order in which the stages of a plan want their samples.
use Rattle.std.specs.Prelude.{ℕ, ◌+◌, ◌*◌, ◌/◌, ◌%◌, List, [], ◌∷◌, map, slice_index_or}
use Rattle.std.specs.List.{range_with_len, flat_map}
use Rattle.plan.specs.Radices.{size}

-- samples q, q + r, q + 2r and so on, len of them; d stands for a sample that is not there
abbrev pub every : {A : Type 0} → A → ℕ → ℕ → List A → ℕ → List A
every d r len a q = map (λ i. slice_index_or a (q + r * i) d) (range_with_len 0 len)

-- under a plan that begins with r: the r lists of every r-th sample, each dealt by the remaining radices, one after the other
unfoldable pub dealt : {A : Type 0} → A → List ℕ → List A → List A
dealt d [] a = a
dealt d (r ∷ rs) a = flat_map (λ q. dealt d rs (every d r (size rs) a q)) (range_with_len 0 r)

-- where sample n goes: for n = q1 + r1 (q2 + r2 (q3 + ..)) that is q1 N/r1 + q2 N/(r1 r2) + ..
abbrev pub place : List ℕ → ℕ → ℕ
place [] n = 0
place (r ∷ rs) n = (n % r) * size rs + place rs (n / r)

-- which sample comes to place p
abbrev pub source : List ℕ → ℕ → ℕ
source [] p = 0
source (r ∷ rs) p = p / size rs + r * source rs (p % size rs)

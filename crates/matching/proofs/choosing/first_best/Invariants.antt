use Rattle.std.proofs.Common.{◌≡◌, ℕ, ◌<◌, ℤ}
use Rattle.matching.proofs.Best.{Largest}
use Rattle.matching.proofs.choosing.first_best.Given as goal

-- the least place of the largest value so far, and that value
abbrev pub invariant-loop-place : goal.invariant-loop-place
invariant-loop-place g l =
    (f : ℕ → ℤ) → ((k : ℕ) (z : ℤ) → k < l.n → goal.F-post g l.value k z → z ≡ f k) → Largest f l.place l.best l.most

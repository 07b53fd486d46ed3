-- How the error grows from stage to stage: the numbers of the induction, and that they close.
--
-- Each turn is rounded, which costs S along any direction, and the table's defects cost len × drift more for a tone of len
-- samples. The first of r parts is not turned: r (len - 1) + (r - 1) = r len - 1 keeps the share of the rounding below S for
-- each sample, and each stage adds one drift for each sample. Nine stages stay below 2 S for each sample.
use Rattle.std.proofs.Common.{◌≡◌, ℕ, zero, suc, ◌+◌, ◌-◌, ◌*◌, ◌<◌, ◌≤◌, ℤ, nat_abs, ap, ◌∙◌, add-one, arith}
use Rattle.std.proofs.lemmas.Nat.{mul-le}
use Rattle.std.proofs.lemmas.Int.{ints}
use Rattle.quarter.specs.Entries.{S, circle}
use Rattle.fixed.specs.Pairs.{units}
use Rattle.fixed.specs.Range.{InRange}
use Rattle.plan.specs.Radices.{most_radices}
use Rattle.stroke.specs.Contents.{limit}
use Rattle.distance.proofs.Defects.{D}

-- the largest part of a sample
abbrev pub most : ℕ
most = nat_abs units * limit

-- the most that a sample is along a direction
abbrev pub farthest : ℕ
farthest = 2 * most * S

abbrev pub drift : ℕ
drift = 10_000_000

-- of one turn of a tone of len samples
abbrev pub turn_error : ℕ → ℕ
turn_error len = S + len * drift

-- of a tone of len samples after some stages
abbrev pub error : ℕ → ℕ → ℕ
error stages len = S * (len - 1) + stages * len * drift

pub error_small : (stages len : ℕ) → stages ≤ most_radices → 0 < len → error stages len ≤ len * (2 * S)
error_small stages len few some = let more = mul-le stages len most_radices len few (omega arith) in omega arith

-- a pair of this reach is turned with no larger error
pub turn_error_enough : (len reach : ℕ) → reach ≤ len * (4 * most + 4) → reach * D + S * S ≤ S * turn_error len
turn_error_enough len reach h = omega arith

-- n tones of len samples each, turned and summed, are far from the end of 32 bits
pub sum_in_range : (stages len n : ℕ) (z : ℤ) → stages ≤ most_radices → 0 < len → n * len ≤ circle → S * nat_abs z ≤ n * (len * farthest) + n * (error stages len + turn_error len) → InRange z
sum_in_range stages len n z few some short near =
    let each : error stages len + turn_error len ≤ len * (4 * S) = omega (arith, error_small stages len few some) in
    let errors : n * (error stages len + turn_error len) ≤ n * (len * (4 * S)) = mul-le n _ n _ (omega arith) each in
    let all : S * nat_abs z ≤ (n * len) * (farthest + 4 * S) = omega arith in
    let small : nat_abs z ≤ circle * (2 * most + 4) = omega arith in
    record { low = omega (arith, ints); high = omega (arith, ints) }

error_is : (stages m : ℕ) → error stages (m + 1) ≡ S * m + stages * (m + 1) * drift
error_is stages m = omega arith

parts_error_by_ones : (stages m n : ℕ) → (n + 1) * error stages (m + 1) + n * turn_error (m + 1) ≤ error (stages + 1) ((n + 1) * (m + 1))
parts_error_by_ones stages m n =
    let each = ap (λ e. (n + 1) * e) (error_is stages m) in
    let len : (n + 1) * (m + 1) ≡ (n * m + n + m) + 1 = omega arith in
    let all = ap (error (stages + 1)) len ∙ error_is (stages + 1) (n * m + n + m) in
    omega arith

-- the errors of suc n parts, all but one of them turned, are the error of the whole after one stage more
pub parts_error : (stages len n : ℕ) → 0 < len → suc n * error stages len + n * turn_error len ≤ error (stages + 1) (suc n * len)
parts_error stages zero n some = absurd (omega arith)
parts_error stages (suc m) n some = rw (add-one m, add-one n) at (parts_error_by_ones stages m n)

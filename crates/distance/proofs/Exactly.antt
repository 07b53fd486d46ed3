-- What a tone should be along each direction, and that the parts of a block come to it together.
use Rattle.std.proofs.Common.{◌≡◌, ℕ, ◌+◌, ◌*◌, ◌/◌, ◌%◌, ◌<◌, ◌≤◌, List, get_or, ℤ, nat_abs, ap, ◌∙◌, zero-add, arith}
use Rattle.std.specs.List.{range_with_len}
use Rattle.std.proofs.lemmas.Nat.{mul-le}
use Rattle.std.proofs.lemmas.List.FromFn.{get_or-map-range_with_len}
use Rattle.algebra.proofs.Sizes.{nat_abs_mul_add}
use Rattle.quarter.specs.Entries.{S, circle, entry}
use Rattle.fixed.specs.declared.Fixed.{Fixed}
use Rattle.fixed.specs.Pairs.{origin}
use Rattle.plan.specs.Dealing.{every}
use Rattle.distance.specs.Sums.{total}
use Rattle.distance.proofs.Lists.{map_at}
use Rattle.distance.proofs.Quarters.{entry_short}
use Rattle.distance.proofs.Steps.{step_is, step_of_part}
use Rattle.distance.proofs.Totals.{total_same, total_by_residues}
use Rattle.distance.proofs.Turns.{along}
use Rattle.distance.proofs.Errors.{most, farthest}
use Rattle.distance.proofs.Stages.{together}

abbrev pub sample : List Fixed → ℕ → Fixed
sample a t = get_or a t origin

-- tone k of n samples along the direction e, where n steps of u go round the circle
abbrev pub exactly : List Fixed → ℕ → ℕ → ℕ → ℕ → ℤ
exactly a n u k e = total (λ t. along (entry (e + (t * k) * u)) (sample a t)) n

-- ---- by parts

-- part q of tone k in a block of r parts with len samples each: what it should be, and what it is turned by
abbrev pub part_exactly : ℕ → ℕ → ℕ → List Fixed → ℕ → ℕ → ℕ → ℤ
part_exactly r len u a k q = exactly (every origin r len a q) len (r * u) (k % len)

abbrev pub part_turn : ℕ → ℕ → ℕ → ℕ → ℕ
part_turn r len k q = ((q * k) % (r * len)) * (circle / (r * len))

every_at : (r len : ℕ) (a : List Fixed) (q i : ℕ) → i < len → sample (every origin r len a q) i ≡ sample a (q + r * i)
every_at r len a q i h = get_or-map-range_with_len (λ j. sample a (q + r * j)) 0 len i i origin h (zero-add i)

pub parts_together : (r len u : ℕ) → (r * len) * u ≡ circle → (a : List Fixed) (k e : ℕ) → together (part_exactly r len u a k) (part_turn r len k) r e ≡ exactly a (r * len) u k e
parts_together r len u round a k e =
    let at : ℕ → ℤ = λ t. along (entry (e + (t * k) * u)) (sample a t) in
    let within : ℕ → ℕ → ℕ = λ q i. e + part_turn r len k q + (i * (k % len)) * (r * u) in
    let same : (q i : ℕ) → entry (within q i) ≡ entry (e + ((q + r * i) * k) * u) = λ q i.
    ap (λ v. entry (e + ((q * k) % (r * len)) * v + (i * (k % len)) * (r * u))) (step_is (r * len) u round) ∙ step_of_part r len u round e k q i in
    total_same (λ q. total (λ i. along (entry (within q i)) (sample (every origin r len a q) i)) len) (λ q. total (λ i. at (q + r * i)) len) r
    (λ q _. total_same (λ i. along (entry (within q i)) (sample (every origin r len a q) i)) (λ i. at (q + r * i)) len (λ i l j. along (same q i j) (every_at r len a q i l j)))
    ∙ total_by_residues at r len

-- ---- of counts within their limits

pub record Modest (a : Fixed) : Type 0 where
  pub x : nat_abs a.x ≤ most
  pub y : nat_abs a.y ≤ most

pub origin_modest : Modest origin
origin_modest = record { x = omega arith; y = omega arith }

pub part_modest : (r len : ℕ) (a : List Fixed) (q : ℕ) → ((t : ℕ) → Modest (sample a t)) → (t : ℕ) → Modest (sample (every origin r len a q) t)
part_modest r len a q modest = map_at Modest (λ i. sample a (q + r * i)) origin (λ i. modest (q + r * i)) origin_modest (range_with_len 0 len)

pub modest_along : (a : Fixed) (e : ℕ) → Modest a → nat_abs (along (entry e) a) ≤ farthest
modest_along a e modest =
    let short = entry_short e in
    let x = mul-le (nat_abs a.x) (nat_abs (entry e).0) most S modest.x short.c in
    let y = mul-le (nat_abs a.y) (nat_abs (entry e).1) most S modest.y short.s in
    let all = nat_abs_mul_add a.x (entry e).0 a.y (entry e).1 in
    omega arith

-- What is brought into range lies there, a multiple of 2^32 away.
use Rattle.std.proofs.Common.{◌≡◌, ℕ, suc, ◌+◌, ◌-◌, ◌/◌, ◌%◌, ◌^◌, ◌<◌, true, false, ltb, ℤ, pos, negsuc, ◌+ℤ◌, ◌-ℤ◌, ◌*ℤ◌, arith, w32, to_z}
use borrow.Author.Differences.{product_is}
use mir.Val.{sel}
use Rattle.std.specs.Int.{int_wrap}
use Rattle.std.proofs.lemmas.Int.{ints, SFits-int_wrap}
use Rattle.fixed.specs.Range.{into_range, InRange, BringsIntoRange}

pub into_range_within : (z : ℤ) → InRange (into_range z)
into_range_within z = let f = (SFits-int_wrap w32 z).sfits in record { low = omega (arith, ints); high = omega (arith, ints) }

-- r is a multiple of 2^32 away from z
Away : ℤ → ℤ → Type 0
Away z r = (k : ℤ) × (r ≡ z +ℤ k *ℤ pos (2 ^ 32))

-- the bits n, read as a signed number
signed_away : (n : ℕ) → n < 2 ^ 32 → Away (pos n) (to_z w32 n)
unfolding Away
signed_away n h =
    elim (ltb n (2 ^ 31)) as (λ b. Away (pos n) (sel b (pos n) (negsuc (2 ^ 32 - suc n)))) [
      | true ↦ (pos 0, omega (arith, ints, product_is))
      | false ↦ (negsuc 0, omega (arith, ints, product_is))
    ]

into_range_away : (z : ℤ) → Away z (into_range z)
unfolding int_wrap Away
into_range_away (pos a) =
    let s = signed_away (a % 2 ^ 32) (omega arith) in
    (s.0 -ℤ pos (a / 2 ^ 32), omega (arith, ints, product_is))
into_range_away (negsuc a) =
    let s = signed_away (2 ^ 32 - 1 - a % 2 ^ 32) (omega arith) in
    (s.0 +ℤ pos (a / 2 ^ 32 + 1), omega (arith, ints, product_is))

pub brings_into_range : BringsIntoRange
unfolding Away
brings_into_range z = let a = into_range_away z in record { within = into_range_within z; times = a.0; moved = a.1 }

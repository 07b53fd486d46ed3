-- Rounding stays within one half of a unit.
use Rattle.std.proofs.Common.{◌/◌, pos, negsuc, ◌+ℤ◌, arith}
use native.Mathlib.Nat.{mul-div-le, lt-mul-div-succ}
use borrow.Author.Differences.{product_is}
use Rattle.std.proofs.lemmas.Int.{ints}
use Rattle.quarter.specs.Entries.{S}
use Rattle.fixed.specs.Rounding.{rounded, FloorRoundsDown, RoundsToNearest}

pub floor_rounds_down : FloorRoundsDown
floor_rounds_down (pos a) n p =
    let l = mul-div-le a n in
    let h = lt-mul-div-succ a p in
    record { low = omega (arith, ints, product_is); high = omega (arith, ints, product_is) }
floor_rounds_down (negsuc a) n p =
    let l = mul-div-le a n in
    let h = lt-mul-div-succ a p in
    record { low = omega (arith, ints, product_is); high = omega (arith, ints, product_is) }

pub rounds_to_nearest : RoundsToNearest
unfolding rounded
rounds_to_nearest z =
    let down = floor_rounds_down (z +ℤ pos (S / 2)) S (omega arith) in
    record { low = omega (arith, ints, product_is); high = omega (arith, ints, product_is) }

-- A turn by 0 gives the pair back.
use Rattle.std.proofs.Common.{◌≡◌, ℤ, pos, ◌+ℤ◌, ◌-ℤ◌, ◌*ℤ◌, ap, ◌∙◌, arith, w32}
use borrow.Author.Differences.{product_is}
use Rattle.std.proofs.lemmas.Int.{ints, int_wrap_fits}
use Rattle.quarter.specs.Entries.{S}
use Rattle.quarter.specs.Table.{quarter_table}
use Rattle.fixed.specs.Pairs.{pair, TurnsByZero}
use Rattle.fixed.specs.Range.{into_range, InRange}
use Rattle.fixed.specs.Rounding.{rounded}
use Rattle.fixed.proofs.Rounding.{rounds_to_nearest}

-- whole units round to themselves
pub rounded_whole : (z x : ℤ) → z ≡ pos S *ℤ x → rounded z ≡ x
rounded_whole z x e = let n = rounds_to_nearest z in omega (arith, ints, product_is)

pub into_range_same : (z : ℤ) → InRange z → into_range z ≡ z
into_range_same z h = int_wrap_fits w32 z (omega (arith, ints))

turned_whole : (z x : ℤ) → z ≡ pos S *ℤ x → InRange x → into_range (rounded z) ≡ x
turned_whole z x e h = ap into_range (rounded_whole z x e) ∙ into_range_same x h

pub turns_by_zero : TurnsByZero
unfolding quarter_table
turns_by_zero a hx hy =
    let x = turned_whole (a.x *ℤ pos S +ℤ a.y *ℤ pos 0) a.x (omega (arith, ints, product_is)) hx in
    let y = turned_whole (a.y *ℤ pos S -ℤ a.x *ℤ pos 0) a.y (omega (arith, ints, product_is)) hy in
    λ i. pair (x i) (y i)

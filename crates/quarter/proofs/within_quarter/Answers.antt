use Rattle.std.proofs.Common.{◌≡◌, ◌≤◌, ℤ, nat_abs, w32, to_z, of_z, sym, subst, arith}
use Rattle.std.proofs.lemmas.Int.{ints, to_z-of_z}
use Rattle.quarter.specs.Table.{quarter_table}
use Rattle.quarter.specs.Entries.{S, Short}
use Rattle.quarter.proofs.Sizes.{table_short}
use Rattle.quarter.proofs.within_quarter.Goals as goal

-- a part of a direction, as a word
worded : (z : ℤ) → nat_abs z ≤ S → to_z w32 (of_z w32 z) ≡ z
worded z h = to_z-of_z w32 z (omega (arith, ints))

whole : (d : ℤ × ℤ) → Short d → (to_z w32 (of_z w32 d.0), to_z w32 (of_z w32 d.1)) ≡ d
whole d h = λ i. (worded d.0 h.c i, worded d.1 h.s i)

pub invariant_of-result : goal.invariant_of-result
unfolding quarter_table
invariant_of-result c =
    let short = table_short c.args.place c.requires in
    record { short = subst Short (sym (whole _ short)) short }

pub returns : goal.returns
unfolding quarter_table
returns c = record { answer = whole _ (table_short c.args.place c.requires) }

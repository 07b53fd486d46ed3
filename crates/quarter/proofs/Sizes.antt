-- No part of an entry of the quarter is longer than S: tested over all of them.
use Rattle.std.proofs.Common.{ℕ, suc, ◌≤◌, Bool, T, leb, get_or, pos, nat_abs, arith, leb→le}
use Rattle.algebra.proofs.Ranges.{both, both_first, both_second, below, below_at}
use Rattle.quarter.specs.Table.{quarter_table}
use Rattle.quarter.specs.Entries.{S, quarter, Short}

short : ℕ → Bool
short k =
    both
    (leb (nat_abs (get_or quarter_table k (pos 0, pos 0)).0) S)
    (leb (nat_abs (get_or quarter_table k (pos 0, pos 0)).1) S)

all_short : T (below (suc quarter) short)
unfolding short quarter_table
all_short = tt

pub table_short : (k : ℕ) → k ≤ quarter → Short (get_or quarter_table k (pos 0, pos 0))
unfolding short
table_short k h =
    let t = below_at (suc quarter) short all_short k (omega arith) in
    record { c = leb→le _ _ (both_first _ _ t); s = leb→le _ _ (both_second _ _ t) }

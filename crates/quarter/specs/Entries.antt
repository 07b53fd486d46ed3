-- The table of directions round the circle. Assumes nothing.
--
-- entry     a direction (c, s)
-- S         how long a direction is
-- circle    how many entries go round the circle
-- quarter   how many of them make a quarter of it
use Rattle.std.specs.Prelude.{ℕ, zero, suc, ◌/◌, ◌%◌, ◌^◌, ◌≤◌, ℤ, pos, neg_ℤ, slice_index_or, unsigned_abs}
use Rattle.quarter.specs.Table.{quarter_table}

abbrev pub S : ℕ
S = 2 ^ 30

abbrev pub circle : ℕ
circle = 512

abbrev pub quarter : ℕ
quarter = 128

-- (−s, c), a quarter of the circle further
abbrev pub onward : ℤ × ℤ → ℤ × ℤ
onward p = (neg_ℤ p.1, p.0)

-- n quarters further
abbrev pub quarters_onward : ℕ → ℤ × ℤ → ℤ × ℤ
quarters_onward zero p = p
quarters_onward (suc n) p = onward (quarters_onward n p)

-- entry e for every e, past the first quarter by symmetry
abbrev pub entry : ℕ → ℤ × ℤ
entry e = quarters_onward (e / quarter % 4) (slice_index_or quarter_table (e % quarter) (pos 0, pos 0))

-- neither part of a direction is longer than S
pub record Short (d : ℤ × ℤ) : Type 0 where
  pub c : unsigned_abs d.0 ≤ S
  pub s : unsigned_abs d.1 ≤ S

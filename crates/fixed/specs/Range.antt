-- Bringing a number into the range of 32 bits. Assumes nothing.
use Rattle.std.specs.Prelude.{◌≡◌, ◌^◌, ℤ, pos, ◌+ℤ◌, ◌*ℤ◌, neg_ℤ, ◌≤ℤ◌, ◌<ℤ◌}
use Rattle.std.specs.Int.{int_wrap, w32}

-- z brought into range, by the library's word for it
abbrev pub into_range : ℤ → ℤ
into_range z = int_wrap w32 z

-- z is a signed number of 32 bits
pub record InRange (z : ℤ) : Type 0 where
  pub low : neg_ℤ (pos (2 ^ 31)) ≤ℤ z
  pub high : z <ℤ pos (2 ^ 31)

-- r is z brought into range by a multiple of 2^32
pub record Brought (z r : ℤ) : Type 0 where
  pub within : InRange r
  pub times : ℤ
  pub moved : r ≡ z +ℤ times *ℤ pos (2 ^ 32)

abbrev pub BringsIntoRange : Type 0
BringsIntoRange = (z : ℤ) → Brought z (into_range z)

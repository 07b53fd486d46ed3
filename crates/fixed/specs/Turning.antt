-- Turning a pair by a direction of the table.
use Rattle.std.specs.Prelude.{ℤ, ◌+ℤ◌, ◌-ℤ◌, ◌*ℤ◌}
use Rattle.fixed.specs.declared.Fixed.{Fixed}
use Rattle.fixed.specs.Range.{into_range}
use Rattle.fixed.specs.Rounding.{rounded}

-- (x, y) turned by (c, s) is (x c + y s, y c − x s), each rounded
abbrev pub whole_turned : Fixed → ℤ × ℤ → Fixed
whole_turned a d = record {
  x = rounded (a.x *ℤ d.0 +ℤ a.y *ℤ d.1);
  y = rounded (a.y *ℤ d.0 -ℤ a.x *ℤ d.1);
}

-- and brought into range
abbrev pub turned : Fixed → ℤ × ℤ → Fixed
turned a d = record { x = into_range (whole_turned a d).x; y = into_range (whole_turned a d).y }

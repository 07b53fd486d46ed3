-- How the powers of a root are kept. Assumes nothing.
use Rattle.std.specs.Prelude.{ℕ}

-- they come from two tables, of those below step and of those by its multiples
abbrev pub step : ℕ
step = 64

-- What is printed of a comparison, byte for byte.
use Rattle.std.specs.Prelude.{ℕ, List, ◌++◌, ℤ, Some, None, codes, decimal, Option}
use Rattle.std.specs.Fmt.{signed_decimal}
use Rattle.comparison.specs.declared.files.Comparison.{Comparison}

-- the lag at which the paths agree best, and both parts of the pair R there
abbrev pub path_lines : ℕ → ℤ × ℤ → List ℕ
path_lines lag r = codes "lag " ++ (decimal lag ++ (codes "\nsum " ++ (signed_decimal r.0 ++ (codes " " ++ (signed_decimal r.1 ++ codes "\n")))))

-- the lag of the pressures, or that there is none
abbrev pub pressure_line : Option ℕ → List ℕ
pressure_line (Some lag) = codes "pressure lag " ++ (decimal lag ++ codes "\n")
pressure_line None = codes "no pressure lag\n"

-- the whole text
abbrev pub printed : Comparison → List ℕ
printed c = path_lines c.lag c.sum ++ pressure_line c.pressure

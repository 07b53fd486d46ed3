-- What is printed of a spectrum or a refusal, byte for byte.
use Rattle.std.specs.Prelude.{ℕ, ◌+◌, List, [], ◌∷◌, ◌++◌, length, codes, decimal}
use Rattle.std.specs.Fmt.{signed_decimal}
use Rattle.fixed.specs.declared.Fixed.{Fixed}
use Rattle.refusal.specs.declared.Fault.{Fault}
use Rattle.refusal.specs.Printed.{printed_fault}

-- how many tones, and how many turns made them
abbrev pub heading : ℕ → ℕ → List ℕ
heading count turns = codes "tones " ++ (decimal count ++ (codes " turns " ++ (decimal turns ++ codes "\n")))

-- tone k, by its number and its two parts
abbrev pub tone_line : ℕ → Fixed → List ℕ
tone_line k tone = decimal k ++ (codes " " ++ (signed_decimal tone.x ++ (codes " " ++ (signed_decimal tone.y ++ codes "\n"))))

-- a line for each tone, from tone k on
abbrev pub tone_lines : ℕ → List Fixed → List ℕ
tone_lines k [] = []
tone_lines k (tone ∷ tones) = tone_line k tone ++ tone_lines (k + 1) tones

-- the whole text of a spectrum
abbrev pub printed : ℕ → List Fixed → List ℕ
printed turns tones = heading (length tones) turns ++ tone_lines 0 tones

-- a refusal, by its number, layer and place
abbrev pub printed_refusal : Fault → List ℕ
printed_refusal fault = codes "refused " ++ (printed_fault fault ++ codes "\n")

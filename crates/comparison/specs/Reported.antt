-- What is reported on two files: the text of their comparison, or why it is refused.
use Rattle.std.specs.Prelude.{◌≡◌, IsOkAnd, Ok, Err, string_bytes, Result, String}
use Rattle.std.specs.declared.alloc.Global.{Global}
use Rattle.refusal.specs.declared.Fault.{Fault}
use Rattle.pad.specs.declared.report.Failure.{Failure}
use Rattle.pad.specs.declared.report.Failure.TheVariants.{Refused, Text}
use Rattle.comparison.specs.declared.files.Comparison.{Comparison}
use Rattle.comparison.specs.Printed.{printed}

-- a comparison that is granted is reported by its text, and a refused one by its fault
abbrev pub Reports : Result Comparison Fault → Result (String Global) Failure → Type 0
Reports c (Ok text) = IsOkAnd c (λ comparison. string_bytes text ≡ printed comparison)
Reports c (Err (Refused f)) = c ≡ Err f
Reports c (Err (Text e)) = Unit {0}

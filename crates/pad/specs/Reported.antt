-- What is reported on a file: its spectrum as text, or why it is refused.
use Rattle.std.specs.Prelude.{◌≡◌, ℕ, ◌+◌, List, IsOkAnd, Ok, Err, string_bytes, Result, String}
use Rattle.std.specs.declared.alloc.Global.{Global}
use Rattle.refusal.specs.declared.Fault.{Fault}
use Rattle.spectrum.specs.Granted.{scratch}
use Rattle.stroke.specs.Contents.{most_samples}
use Rattle.pad.specs.declared.report.Failure.{Failure}
use Rattle.pad.specs.declared.report.Failure.TheVariants.{Refused, Text}
use Rattle.pad.specs.Files.{Spectrum, file_spectrum}
use Rattle.pad.specs.Printed.{printed}

-- of any file, with memory for the longest stroke
abbrev pub spectrum_in : List ℕ → Result Spectrum Fault
spectrum_in bs = file_spectrum most_samples (most_samples + scratch) bs

-- a granted file is reported by the text of its spectrum, and a refused one by its fault
abbrev pub Reports : Result Spectrum Fault → Result (String Global) Failure → Type 0
Reports s (Ok text) = IsOkAnd s (λ spectrum. string_bytes text ≡ printed spectrum.turns spectrum.tones)
Reports s (Err (Refused f)) = s ≡ Err f
Reports s (Err (Text e)) = Unit {0}

use Rattle.std.proofs.Common.{◌≡◌, ◌++◌, drop, string_bytes}
use Rattle.pad.specs.Printed.{tone_lines}
use Rattle.pad.proofs.text.write_tones.Given as goal

-- what is written, and the lines from tone k on, are the whole
abbrev pub invariant-loop-k : goal.invariant-loop-k
invariant-loop-k l =
    string_bytes l.text ++ tone_lines l.k (drop l.k l.tones)
    ≡ string_bytes l.initial.text ++ tone_lines 0 l.tones

use Rattle.std.proofs.Common.{◌-◌, ◌%◌, length}
use Rattle.cells.specs.Cells.{tone_shifted}
use Rattle.cells.proofs.Walks.{Walked}
use Rattle.cells.proofs.Written.{Written}
use Rattle.cells.proofs.tones.shift_tones.Given as goal

abbrev pub invariant-loop-tone : goal.invariant-loop-tone
invariant-loop-tone g l =
    let m = g.X.Arithmetic.meaning in
    let n = length l.initial.tones in
    Walked m.span n ((n - l.h) % n) l.tone-index l.angle
    × Written m.zero (tone_shifted m l.h l.initial.tones) l.tone-index l.initial.tones l.tones

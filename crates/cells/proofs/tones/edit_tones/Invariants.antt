use Rattle.std.proofs.Common.{length}
use Rattle.cells.specs.Cells.{tone_edited}
use Rattle.cells.proofs.Walks.{Walked}
use Rattle.cells.proofs.Written.{Written}
use Rattle.cells.proofs.tones.edit_tones.Given as goal

abbrev pub invariant-loop-tone : goal.invariant-loop-tone
invariant-loop-tone g l =
    let m = g.X.Arithmetic.meaning in
    Walked m.span (length l.initial.tones) l.i l.tone-index l.angle
    × Written m.zero (tone_edited m l.i l.change l.initial.tones) l.tone-index l.initial.tones l.tones

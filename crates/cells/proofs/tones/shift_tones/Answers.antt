use Rattle.std.proofs.Common.{◌<◌, length, arith}
use Rattle.cells.specs.Cells.{tones_shifted}
use Rattle.cells.proofs.Walks.{walked_more}
use Rattle.cells.proofs.Written.{written_more, written_all}
use Rattle.cells.proofs.NextTones.{shifted_next}
use Rattle.cells.proofs.tones.shift_tones.Goals as goal

pub loop-tone-preserved : goal.loop-tone-preserved
loop-tone-preserved g c =
    let k = c.loop-tone.tone-index in
    let room : k < length c.loop-tone.tones = omega arith in
    let next = c.onward-angle.ensures in (
      walked_more g.met.X.Arithmetic.lawful.every c.requires.divides k c.loop-tone.invariant.0 next.at next.step next.span,
      written_more k _ c.loop-tone.invariant.1 room (shifted_next g.X.Arithmetic.meaning _ _ _ c.loop-tone.invariant.0 c.place.ensures c.loop-tone.invariant.1 room c.turn.ensures),
    )

pub returns : goal.returns
unfolding tones_shifted
returns g c = record { after = written_all _ _ c.loop-tone.invariant.1 (omega arith) c.loop-tone.auto.tones }

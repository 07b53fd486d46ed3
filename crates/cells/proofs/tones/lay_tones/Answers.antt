use Rattle.std.proofs.Common.{◌<◌, length, sym, ◌∙◌, arith}
use Rattle.spectra.specs.Moves.{laid}
use Rattle.spectra.specs.Spectra.{spectrum, defining}
use Rattle.spectra.proofs.ByPlace.{at_place}
use Rattle.cells.proofs.Written.{written_more, written_all}
use Rattle.cells.proofs.NextTones.{laid_next}
use Rattle.cells.proofs.tones.lay_tones.Goals as goal

pub loop-k-preserved : goal.loop-k-preserved
unfolding spectrum
loop-k-preserved g c =
    let m = g.X.Arithmetic.meaning in
    let b = c.args.laid.now in
    let k = c.loop-k.k in
    let room : k < length c.loop-k.tones = omega arith in
    written_more k _ c.loop-k.invariant room
    (laid_next m (spectrum m b) k _ _ _ c.loop-k.invariant room (c.tone_of.ensures.answer ∙ sym (at_place m.zero (defining m b) (length b) k (omega arith))) c.sum.ensures)

pub returns : goal.returns
unfolding laid
returns g c = record { after = written_all _ _ c.loop-k.invariant (omega arith) c.loop-k.auto.tones }

use Rattle.std.proofs.Common.{◌≡◌, ◌+◌, ◌-◌, length, get_or, drop, ap, ◌∙◌, arith}
use Rattle.std.proofs.lemmas.List.{get_or-take, get_or-drop}
use Rattle.arithmetic.specs.Series.{series}
use Rattle.spectra.specs.Spectra.{defining}
use Rattle.cells.proofs.Walks.{Walked, walked_none, walked_more}
use Rattle.cells.proofs.NextTones.{sample_turned, summed_one, summed_more}
use Rattle.cells.proofs.tones.tone_of.Goals as goal

pub loop-x-init : goal.loop-x-init
loop-x-init g c =
    let start = c.parts-angle.ensures in
    let walk = walked_none start.at start.step start.span in
    (walk, summed_one g.X.Arithmetic.meaning _ c.args.k _ _ (omega arith) walk c.place.ensures c.index-samples-0.is c.turn-sum.ensures)

pub loop-x-preserved : goal.loop-x-preserved
loop-x-preserved g c =
    let m = g.X.Arithmetic.meaning in
    let a = c.args.samples.now in
    let j = c.loop-x.x-index in
    let x = c.x-item.result in
    let next = c.onward-angle.ensures in
    let walk : Walked m.span (length a) c.args.k (j + 1) c.onward-angle.result = walked_more g.met.X.Arithmetic.lawful.every c.requires.divides j c.loop-x.invariant.0 next.at next.step next.span in
    let read : x ≡ get_or a (j + 1) x = c.x-item.is ∙ get_or-take (length a - 1) (drop 1 a) j x (omega arith) ∙ get_or-drop 1 a j x ∙ ap (λ t. get_or a t x) (omega arith) in
    (walk, summed_more m a c.args.k (j + 1) x _ c.loop-x.sum _ (omega arith) (omega arith) walk c.place-in-loop-x.ensures read c.turn.ensures c.loop-x.invariant.1 c.sum-sum.ensures)

pub returns : goal.returns
unfolding defining
returns g c =
    let m = g.X.Arithmetic.meaning in
    let a = c.args.samples.now in
    let end : c.loop-x.x-index + 1 ≡ length a = omega arith in
    record { answer = c.loop-x.invariant.1 ∙ ap (series m (sample_turned m a c.args.k)) end }

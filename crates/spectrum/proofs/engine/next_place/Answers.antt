use Rattle.std.proofs.Common.{get_or, ap, ◌∙◌, div-le_self, arith}
use Rattle.spectra.proofs.Dealing.{next, next_place, block_le, counts_up, carries_on, carried_out}
use Rattle.spectrum.proofs.engine.next_place.Goals as goal

pub overflow_add-at : goal.overflow_add-at
overflow_add-at c =
    let less = div-le_self c.loop-r.block (get_or c.args.radices.now c.loop-r.r-index 0) in
    omega (arith, block_le c.requires.each c.loop-r.invariant)

pub returns-then-at-part : goal.returns-then-at-part
returns-then-at-part c = record {
  answer = λ i is. counts_up c.requires.each c.loop-r.invariant c.loop-r-test.true c.if-at-part.true ∙ ap (next c.args.radices.now) is ∙ next_place _ c.requires.each i;
  within = omega (arith, block_le c.requires.each c.loop-r.invariant);
}

pub loop-r-preserved : goal.loop-r-preserved
loop-r-preserved c = carries_on c.requires.each c.loop-r.invariant c.loop-r-test.true c.if-at-part.false

pub returns : goal.returns
returns c = record {
  answer = λ i is. carried_out c.requires.each c.loop-r.invariant (omega arith) ∙ ap (next c.args.radices.now) is ∙ next_place _ c.requires.each i;
  within = omega (arith, block_le c.requires.each c.loop-r.invariant);
}

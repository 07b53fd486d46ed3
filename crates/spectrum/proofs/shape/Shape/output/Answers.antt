use Rattle.std.proofs.Common.{rules, ◌<◌, ◌+◌, ◌*◌, length, drop, take_all, length-drop, one-mul, ap, refl, sym, ◌∙◌, arith}
use Rattle.std.proofs.lemmas.List.{get_or_read, length_push}
use Rattle.std.proofs.lemmas.List.Prefix.{at_reads}
use Rattle.spectrum.proofs.Parts.{part_next, parts_end}
use Rattle.spectrum.proofs.Sums.{step_within, summed_one, summed_more, summed_all}
use Rattle.spectrum.proofs.shape.Shape.output.Goals as goal

pub loop-part-init : goal.loop-part-init
loop-part-init g c =
    let m = g.X.Arithmetic.meaning in
    let s = c.args.self.now in
    let room : c.args.j < length c.args.block.now = omega arith in
    let read = get_or_read _ c.args.j c.index-block-j.result room c.index-block-j.is m.zero in (
      summed_one m s.sound c.requires.cell.0 c.requires.cell.1 _ s.unit _ _ _ _ _ c.place.ensures.answer s.circle refl refl c.span-span.ensures c.turn-sum.ensures read,
      record {
        parted = search rules;
        left = search rules ∙ c.chunks_exact-part-items.ensures.rest ∙ take_all _ (drop s.len c.args.block.now) (omega (arith, length-drop s.len c.args.block.now))
            ∙ ap (λ n. drop n c.args.block.now) (sym (one-mul s.len));
        within = s.sound.some;
      },
    )

pub offset_bounds-part-j : goal.offset_bounds-part-j
offset_bounds-part-j g c =
    let next = part_next c.loop-part.part-iterator c.next.new.self c.loop-part.invariant.1 c.requires.whole c.args.self.now.sound.parts c.in-Some.part c.in-Some.ensures.steps in
    omega (arith, next.0)

pub overflow_cast-e : goal.overflow_cast-e
overflow_cast-e g c =
    let below = c.loop-part.invariant.0.below in
    omega (arith, g.met.X.Arithmetic.lawful.every.span_fits)

pub onward-e-requires : goal.onward-e-requires
onward-e-requires g c =
    let below = c.loop-part.invariant.0.below in
    let less = step_within g.X.Arithmetic.meaning c.args.self.now.sound c.requires.cell.0 c.requires.cell.1 c.place.result c.args.self.now.unit c.place.ensures.answer c.args.self.now.circle in
    (omega arith, (omega arith, omega (arith, g.met.X.Arithmetic.lawful.every.span_fits)))

pub loop-part-preserved : goal.loop-part-preserved
loop-part-preserved g c =
    let m = g.X.Arithmetic.meaning in
    let s = c.args.self.now in
    let block = c.args.block.now in
    let part = c.in-Some.part in
    let q = length c.loop-part.yielded + 1 in
    let next = part_next c.loop-part.part-iterator c.next.new.self c.loop-part.invariant.1 c.requires.whole s.sound.parts part c.in-Some.ensures.steps in
    let room : c.args.j < length part.now = omega (arith, next.0) in
    let read = get_or_read part.now c.args.j c.index-part-j.result room c.index-part-j.is m.zero ∙ sym (at_reads m.zero block part.now (q * s.len) _ next.1 c.args.j room) in
    let more = summed_more m s.sound c.requires.cell.0 c.requires.cell.1 _ _ _ _ _ _ _ c.loop-part.invariant.0 (omega arith) c.onward-e.ensures.answer refl refl refl read c.turn.ensures c.sum-sum.ensures in
    let pushed = length_push c.loop-part.yielded part in
    (rw pushed more, rw pushed next.3)

pub returns : goal.returns
returns g c =
    let end = parts_end c.loop-part.part-iterator c.next.new.self c.loop-part.invariant.1 c.requires.whole c.args.self.now.sound.parts c.in-None.ensures.steps in
    summed_all g.X.Arithmetic.meaning c.loop-part.invariant.0 end

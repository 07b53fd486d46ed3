use Rattle.std.proofs.Common.{◌*◌, ◌%◌, length, ap, ◌∙◌, arith}
use Rattle.std.proofs.lemmas.List.{length_push}
use Rattle.std.proofs.lemmas.Iterator.Adapters.{YieldsList-from_rev_slice}
use Rattle.std.proofs.lemmas.Iterator.Consumers.{YieldsList-turn}
use Rattle.plan.specs.Radices.{Plan}
use Rattle.plan.specs.Planned.{radices_of}
use Rattle.spectra.specs.Stages.{staged}
use Rattle.spectrum.proofs.Schedule.{next_from_end, none_done, next_sound, next_whole, next_fits, next_done}
use Rattle.spectrum.proofs.suited.Suited.stages.Goals as goal

pub loop-r-init : goal.loop-r-init
loop-r-init g c = none_done g.X.Arithmetic.meaning _

pub new-requires : goal.new-requires
new-requires g c =
    let rs = radices_of c.args.self.now.plan in
    let plan : Plan rs = rw c.radices.ensures.answer at c.radices.ensures.plan in
    let next = next_from_end rs _ _ (YieldsList-turn (YieldsList-from_rev_slice rs cc) c.loop-r.yielded _ c.loop-r.yielded_by _ _ c.in-Some.r c.in-Some.is c.next.ensures.steps) in
    next_sound g.X.Arithmetic.meaning plan c.loop-r.invariant next g.met.X.Arithmetic.lawful.every.span_above_zero c.args.self.now.divides

pub stage-made-requires-clause-whole : goal.stage-made-requires-clause-whole
stage-made-requires-clause-whole g c =
    let rs = radices_of c.args.self.now.plan in
    let plan : Plan rs = rw c.radices.ensures.answer at c.radices.ensures.plan in
    let next = next_from_end rs _ _ (YieldsList-turn (YieldsList-from_rev_slice rs cc) c.loop-r.yielded _ c.loop-r.yielded_by _ _ c.in-Some.r c.in-Some.is c.next.ensures.steps) in
    let whole = next_whole g.X.Arithmetic.meaning plan c.loop-r.invariant next in
    let shape = c.new.ensures in
    ap (λ x. x % (c.new.result.radix * c.new.result.len)) (c.loop-r.auto.buf ∙ c.requires.whole) ∙ rw (shape.0, shape.1) whole

pub overflow_add-made : goal.overflow_add-made
overflow_add-made g c =
    let rs = radices_of c.args.self.now.plan in
    let plan : Plan rs = rw c.radices.ensures.answer at c.radices.ensures.plan in
    let next = next_from_end rs _ _ (YieldsList-turn (YieldsList-from_rev_slice rs cc) c.loop-r.yielded _ c.loop-r.yielded_by _ _ c.in-Some.r c.in-Some.is c.next.ensures.steps) in
    let turns = c.stage-made.ensures.turns ∙ ap (λ n. n * c.new.result.radix) c.loop-r.auto.buf ∙ ap (λ x. length c.args.buf.now * x) c.new.ensures.0 in
    omega (arith, next_fits g.X.Arithmetic.meaning plan c.loop-r.invariant next _ turns c.requires.whole)

pub loop-r-preserved : goal.loop-r-preserved
loop-r-preserved g c =
    let m = g.X.Arithmetic.meaning in
    let rs = radices_of c.args.self.now.plan in
    let plan : Plan rs = rw c.radices.ensures.answer at c.radices.ensures.plan in
    let next = next_from_end rs _ _ (YieldsList-turn (YieldsList-from_rev_slice rs cc) c.loop-r.yielded _ c.loop-r.yielded_by _ _ c.in-Some.r c.in-Some.is c.next.ensures.steps) in
    let turns = c.stage-made.ensures.turns ∙ ap (λ n. n * c.new.result.radix) c.loop-r.auto.buf ∙ ap (λ x. length c.args.buf.now * x) c.new.ensures.0 in
    let made = c.stage-made.ensures.after ∙ ap (λ x. staged m x c.new.result.len c.loop-r.buf) c.new.ensures.0 ∙ ap (λ x. staged m c.in-Some.r.now x c.loop-r.buf) c.new.ensures.1 in
    next_done m plan c.loop-r.invariant next _ _ (length_push c.loop-r.yielded c.in-Some.r) turns _ made

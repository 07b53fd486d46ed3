use Rattle.std.proofs.Common.{◌+◌, sym, ap, ◌∙◌, arith}
use Rattle.std.proofs.lemmas.List.{get_or_read}
use Rattle.plan.specs.Dealing.{place}
use Rattle.plan.specs.Planned.{radices_of}
use Rattle.plan.proofs.Sizes.{size_positive}
use Rattle.plan.proofs.Deals.{dealt_all}
use Rattle.spectra.proofs.Dealing.{place_zero, dealt_more}
use Rattle.spectrum.proofs.suited.Suited.scatter.Goals as goal

pub loop-x-init : goal.loop-x-init
loop-x-init g c =
    let rs = radices_of c.args.self.now.plan in
    (sym (place_zero rs), omega (arith, size_positive rs c.args.self.now.plan.each), λ k h. absurd (omega arith))

pub loop-x-preserved : goal.loop-x-preserved
loop-x-preserved g c =
    let rs = radices_of c.args.self.now.plan in
    let same = c.radices-radices.ensures.answer in
    let i = c.loop-x.x-index in
    let read = get_or_read c.args.samples.now i c.x-item.result c.loop-x-test.true c.x-item.is g.X.Arithmetic.meaning.zero in (
      c.next_place-at.ensures.answer i (c.loop-x.invariant.0 ∙ ap (λ x. place x i) (sym same)) ∙ ap (λ x. place x (i + 1)) same,
      c.next_place-at.ensures.within,
      dealt_more _ rs (size_positive rs c.args.self.now.plan.each) _ _ i _ _ (omega arith) (c.loop-x.auto.out ∙ c.requires.out) c.loop-x.invariant.0 read c.loop-x.invariant.2,
    )

pub returns : goal.returns
returns g c =
    let rs = radices_of c.args.self.now.plan in
    record {
      after = dealt_all _ rs (size_positive rs c.args.self.now.plan.each) _ _ c.requires.samples (c.loop-x.auto.out ∙ c.requires.out)
          (λ k h. c.loop-x.invariant.2 k (omega arith));
    }

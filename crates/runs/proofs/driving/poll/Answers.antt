use Rattle.std.proofs.Common.{◌≡◌, min, length, replicate, Ok, sym, ap, ◌∙◌, arith}
use Rattle.runs.specs.Runs.{polled_run, fresh, seen, as_seen}
use Rattle.runs.proofs.Underway.{suited_granted, suited_as, suited_answers, suited_kept, stepped_onward}
use Rattle.runs.proofs.Polled.{polled_none, polled_ready, polled_more, polled_seen, polled_blocks}
use Rattle.runs.proofs.driving.poll.Goals as goal

pub loop-i-init : goal.loop-i-init
loop-i-init g c =
    let m = g.X.Arithmetic.meaning in
    let rs = c.args.radices.now in
    let run = c.in_ok-run.run' in
    let dealing = c.in_ok-run.ensures.answer in
    let granted = suited_granted m.span rs (length c.args.buf.now) (length c.args.work.now) (seen run) (fresh rs) dealing in
    let is = suited_as m.span rs (length c.args.buf.now) (length c.args.work.now) (seen run) (fresh rs) dealing in (
      polled_none m rs run _ is,
      suited_kept _ _ granted c.deal.auto.buf c.deal.auto.work,
      c.min-count.ensures ∙ ap (min c.args.polls) (c.left.ensures.answer ∙ ap (λ s. s.left) is),
      c.in_ok-run.ensures.work ∙ ap (λ n. replicate n m.zero) (sym c.deal.auto.work),
      c.in_ok-run.ensures.held,
    )

pub loop-i-preserved : goal.loop-i-preserved
loop-i-preserved g c =
    let m = g.X.Arithmetic.meaning in
    let inv = c.loop-i.invariant in
    let next = c.unwrap-run.result in
    let granted = c.unwrap-run.ensures in
    let ready = polled_ready m inv.0 _ _ _ inv.1 (omega (arith, inv.2)) in
    let on = stepped_onward _ _ _ _ (seen next) ready (sym (ap as_seen granted) ∙ c.stage.ensures.answer) in (
      polled_more m inv.0 next _ (omega (arith, inv.2)) on (rw granted at c.stage.ensures.after),
      suited_kept _ _ inv.1 c.stage.auto.buf c.stage.auto.work,
      inv.2,
      (rw granted at c.stage.ensures.work) ∙ ap (λ n. replicate n m.zero) c.loop-i.auto.work,
      (rw granted at c.stage.ensures.held) inv.4,
    )

pub returns : goal.returns
returns g c =
    let m = g.X.Arithmetic.meaning in
    let rs = c.args.radices.now in
    let polls = c.args.polls in
    let inv = c.loop-i.invariant in
    let times : c.loop-i._i ≡ min polls (length rs) = omega (arith, inv.2) in
    let granted = suited_kept (length c.args.buf.now) (length c.args.work.now) inv.1 (sym (c.loop-i.auto.buf ∙ c.deal.auto.buf)) (sym (c.loop-i.auto.work ∙ c.deal.auto.work)) in
    record {
      answer = ap Ok (polled_seen m inv.0 polls times) ∙ suited_answers m.span rs _ _ (polled_run rs polls) granted;
      held = inv.4;
      after = polled_blocks m inv.0 c.args.buf.now granted.whole c.in_ok-run.ensures.after;
      work = inv.3 ∙ ap (λ n. replicate n m.zero) c.deal.auto.work;
    }

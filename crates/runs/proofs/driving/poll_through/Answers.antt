use Rattle.std.proofs.Common.{◌≡◌, ℕ, ◌-◌, ◌*◌, [], length, take, drop, Ok, sym, ap, ◌∙◌, subst, arith}
use Rattle.plan.specs.Radices.{size, radix_sum, turns}
use Rattle.runs.specs.Runs.{polled_run, seen}
use Rattle.spectra.specs.ByBlocks.{ByBlocks}
use Rattle.runs.proofs.Underway.{suited_granted, suited_as, suited_answers, finished_turns}
use Rattle.runs.proofs.Polled.{blocks_all}
use Rattle.runs.proofs.driving.poll_through.Goals as goal

pub returns : goal.returns
returns g c =
    let m = g.X.Arithmetic.meaning in
    let rs = c.args.radices.now in
    let buf = c.args.buf.now in
    let work = c.args.work.now in
    let after = c.poll.new.buf in
    let run = c.in_ok-run.run' in
    let all = polled_run rs (length rs) in
    let polling = c.in_ok-run.ensures.answer in
    let granted = suited_granted m.span rs (length buf) (length work) (seen run) all polling in
    let is = suited_as m.span rs (length buf) (length work) (seen run) all polling in
    let none : length rs - length rs ≡ 0 = omega arith in
    let left : run.left ≡ 0 = ap (λ s. s.left) is ∙ none in
    let turned : run.turns ≡ turns rs = ap (λ s. s.turns) is ∙ ap (λ k. size rs * radix_sum (drop k rs)) none in
    let blocks : ByBlocks m [] rs buf after = subst (λ (k : ℕ). ByBlocks m (take k rs) (drop k rs) buf after) left c.in_ok-run.ensures.after in
    record {
      answer = ap Ok (finished_turns run c.unwrap.result (sym c.unwrap.ensures ∙ c.finish.ensures.answer) ∙ turned)
          ∙ suited_answers m.span rs (length buf) (length work) (turns rs) granted;
      after = blocks_all m rs buf after granted.whole (c.poll.auto.buf ∙ granted.whole) blocks;
      work = c.in_ok-run.ensures.work;
    }

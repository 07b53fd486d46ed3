use Rattle.std.proofs.Common.{◌≡◌, ◌<◌, ◌≤◌, length, sym, ap, ◌∙◌, arith}
use Rattle.cells.specs.Played.{sheet_answer, sheet_after}
use Rattle.cells.specs.Lent.{cells_of, length_of}
use Rattle.replay.specs.Replaying.{plainly}
use Rattle.replay.proofs.Playing.{finally_more, finally_all, answers_more, answers_all}
use Rattle.replay.proofs.play_all.Goals as goal

pub loop-i-preserved : goal.loop-i-preserved
loop-i-preserved g c =
    let m = g.X.Arithmetic.meaning in
    let i = c.loop-i.i in
    let inv = c.loop-i.invariant in
    let s = c.play.ensures in
    let sheet = c.loop-i.sheet in
    let n = length_of c.args.sheet.now in
    let long : length_of sheet ≡ n = inv.0.long in
    let call = c.index-calls-i.result in
    let left : cells_of c.play.new.sheet ≡ sheet_after m n (plainly call) (cells_of sheet) = s.after ∙ ap (λ k. sheet_after m k (plainly call) (cells_of sheet)) long in
    let says : c.play.result ≡ sheet_answer m n (plainly call) (cells_of sheet) = s.answer ∙ ap (λ k. sheet_answer m k (plainly call) (cells_of sheet)) long in
    let room : i < length c.loop-i.answers = omega arith in (
      record { same = s.kept.same ∙ inv.0.same; long = s.kept.long ∙ long },
      finally_more m n c.args.calls.now i (cells_of sheet) call _ c.loop-i-test.true c.index-calls-i.is left ∙ inv.1,
      answers_more m n c.args.calls.now i (cells_of sheet) call _ c.loop-i.answers _ c.loop-i-test.true room c.index-calls-i.is left says ∙ inv.2,
    )

pub returns : goal.returns
returns g c =
    let m = g.X.Arithmetic.meaning in
    let i = c.loop-i.i in
    let inv = c.loop-i.invariant in
    let calls = c.args.calls.now in
    let n = length_of c.args.sheet.now in
    let cells = cells_of c.loop-i.sheet in
    let full : length c.loop-i.answers ≤ i = omega arith in
    record {
      answers = sym (answers_all m n calls i cells c.loop-i.answers c.loop-i-test.false full) ∙ inv.2;
      after = sym (finally_all m n calls i cells c.loop-i-test.false) ∙ inv.1;
      kept = inv.0;
    }

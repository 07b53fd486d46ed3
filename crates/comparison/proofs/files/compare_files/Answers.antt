use Rattle.std.proofs.lemmas.Result.{IfOk-from_err}
use Rattle.comparison.proofs.Comparing.{told, first_unread, second_unread, both_read, both_best}
use Rattle.comparison.proofs.files.compare_files.Goals as goal

pub returns-in_err-a : goal.returns-in_err-a
returns-in_err-a c =
    let is = first_unread c.args.first.now c.args.second.now _ c.in_err-a.ensures.answer in
    record { answer = told _ _ _ is c.from_residual.ensures.1; best = IfOk-from_err _ _ c.from_residual.ensures.0 }

pub returns-in_err-b : goal.returns-in_err-b
returns-in_err-b c =
    let is = second_unread c.args.first.now c.args.second.now _ c.in_ok-a.ensures.answer _ c.in_err-b.ensures.answer in
    record { answer = told _ _ _ is c.from_residual-in_err-b.ensures.1; best = IfOk-from_err _ _ c.from_residual-in_err-b.ensures.0 }

pub returns : goal.returns
returns c =
    let bs = c.args.first.now in
    let cs = c.args.second.now in
    let first = c.in_ok-a.ensures.answer in
    let second = c.in_ok-b.ensures.answer in
    record {
      answer = both_read bs cs _ first _ second _ c.compare_strokes.ensures.answer;
      best = both_best bs cs _ first _ second _ c.compare_strokes.ensures.best;
    }

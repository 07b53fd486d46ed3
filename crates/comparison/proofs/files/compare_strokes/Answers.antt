use Rattle.std.proofs.Common.{refl}
use Rattle.std.proofs.lemmas.Result.{IfOk-from_err}
use Rattle.comparison.specs.Copied.{copied}
use Rattle.comparison.proofs.Comparing.{told, front_long, refused, granted, granted_best}
use Rattle.comparison.proofs.files.compare_strokes.Goals as goal

pub returns-in_err-found : goal.returns-in_err-found
returns-in_err-found c =
    let whole = front_long _ _ _ c.len.ensures.value c.len.ensures.fits refl in
    let is = refused (copied c.args.a.now) (copied c.args.b.now) _ _ _ c.lent.ensures.answer c.lent-2.ensures.answer whole _ c.in_err-found.ensures.answer in
    record { answer = told _ _ _ is c.from_residual.ensures.1; best = IfOk-from_err _ _ c.from_residual.ensures.0 }

pub returns : goal.returns
returns c =
    let a = copied c.args.a.now in
    let b = copied c.args.b.now in
    let whole = front_long _ _ _ c.len.ensures.value c.len.ensures.fits refl in
    let done = c.in_ok-found.ensures in
    record {
      answer = granted a b _ _ _ c.lent.ensures.answer c.lent-2.ensures.answer whole _ _ _ done.answer done.after done.best.path.below;
      best = granted_best a b _ _ _ c.lent.ensures.answer c.lent-2.ensures.answer whole _ _ _ done.after done.best;
    }

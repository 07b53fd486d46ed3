use Rattle.std.proofs.Common.{map, rules}
use Rattle.replay.specs.Replaying.{plainly}
use Rattle.replay.proofs.Replaying.{replayed_answers, replayed_holds}
use Rattle.replay.proofs.replay.Goals as goal

pub returns-clause-answers : goal.returns-clause-answers
returns-clause-answers g c = replayed_answers g.met.X.Arithmetic.lawful c.args.radices.now _ c.in_ok-n.n _ c.args.cells.now c.in_ok-sized.ensures.answer c.in_ok-n.ensures.answer c.open.new.cells c.in_ok-n.ensures.sheet (map plainly c.args.calls.now) _ (search rules)

pub returns-clause-sheet : goal.returns-clause-sheet
returns-clause-sheet g c = replayed_holds g.met.X.Arithmetic.lawful c.args.radices.now _ c.in_ok-n.n _ c.args.cells.now c.in_ok-sized.ensures.answer c.in_ok-n.ensures.answer c.open.new.cells c.in_ok-n.ensures.sheet (map plainly c.args.calls.now) _ (search rules)

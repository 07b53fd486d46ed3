use Rattle.std.proofs.Common.{rules}
use Rattle.writing.specs.Lending.{held}
use Rattle.matching.proofs.Granting.{refused}
use Rattle.matching.proofs.matched.match_strokes.Goals as goal

pub returns-in_err-granted-clause-answer : goal.returns-in_err-granted-clause-answer
returns-in_err-granted-clause-answer c =
    let none = refused (held c.args.a.now) (held c.args.b.now) _ _ c.in_err-granted.ensures.answer in search rules

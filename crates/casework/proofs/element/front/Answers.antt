use Rattle.std.proofs.Common.{length, ap, ◌∙◌, arith}
use Rattle.casework.specs.Spelling.{joined}
use Rattle.casework.proofs.Seconds.{apart, uncut, not_cut, up_to_second}
use Rattle.casework.proofs.element.front.Goals as goal

pub returns-in_default-clause-cut : goal.returns-in_default-clause-cut
returns-in_default-clause-cut c = λ u v more lacks_u lacks_v whole. absurd (uncut c.args.text.now c.split_once.result c.split_once.ensures.cases u (joined v more) c.in_default.is lacks_u whole)

pub returns-in-Some-split_once-clause-cut : goal.returns-in-Some-split_once-clause-cut
returns-in-Some-split_once-clause-cut c = λ u v more lacks_u lacks_v whole.
    let first = apart c.args.text.now c.split_once.result c.split_once.ensures.cases u (joined v more) _ c.in-Some.is lacks_u whole in
    let second = apart c.in-Some.rest.now c.split_once-2.result c.split_once-2.ensures.cases v more _ c.in-Some-split_once.is lacks_v first.1 in
    c.range.ensures.value ∙ up_to_second c.args.text.now u v more _ whole (omega (arith, ap length first.0, ap length second.0))

pub returns-in-Some-split_once-clause-whole : goal.returns-in-Some-split_once-clause-whole
returns-in-Some-split_once-clause-whole c = λ u v lacks_u lacks_v whole.
    let first = apart c.args.text.now c.split_once.result c.split_once.ensures.cases u v _ c.in-Some.is lacks_u whole in
    absurd (not_cut c.in-Some.rest.now c.split_once-2.result c.split_once-2.ensures.cases _ c.in-Some-split_once.is (rw first.1 lacks_v))

pub returns-in-None-clause-cut : goal.returns-in-None-clause-cut
returns-in-None-clause-cut c = λ u v more lacks_u lacks_v whole.
    let first = apart c.args.text.now c.split_once.result c.split_once.ensures.cases u (joined v more) _ c.in-Some.is lacks_u whole in
    absurd (uncut c.in-Some.rest.now c.split_once-2.result c.split_once-2.ensures.cases v more c.in-None.is lacks_v first.1)

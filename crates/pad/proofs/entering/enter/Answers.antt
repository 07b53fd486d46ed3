use Rattle.std.proofs.Common.{◌∙◌, arith}
use Rattle.stroke.specs.Reading.{contents}
use Rattle.pad.proofs.Samples.{entered_all}
use Rattle.pad.proofs.entering.enter.Goals as goal

pub returns : goal.returns
returns c =
    let path = (contents c.args.stroke.now).path in
    record { after = entered_all path c.loop-i.out (c.loop-i.auto.out ∙ c.requires) (λ k h. c.loop-i.invariant k (omega arith)) }

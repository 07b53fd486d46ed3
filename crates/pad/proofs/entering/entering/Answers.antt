use Rattle.std.proofs.Common.{◌≡◌, MatchOption, rules}
use Rattle.fixed.specs.Pairs.{sampled}
use Rattle.stroke.specs.Reading.{contents}
use Rattle.pad.proofs.Samples.{entered_at}
use Rattle.pad.proofs.entering.entering.Goals as goal

pub returns : goal.returns
returns c =
    let at : MatchOption c.path.result (c.map_or.result ≡ c.zero.result) (λ p. c.map_or.result ≡ sampled p.0 p.1) = search rules in
    record { answer = entered_at (contents c.args.stroke.now).path c.args.i c.path.result c.map_or.result c.zero.result c.path.ensures c.zero.ensures at }

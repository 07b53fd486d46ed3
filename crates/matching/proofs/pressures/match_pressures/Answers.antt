use Rattle.std.proofs.Common.{◌∙◌}
use Rattle.matching.proofs.WholePressures.{best_pressure}
use Rattle.matching.proofs.pressures.match_pressures.Goals as goal

pub returns : goal.returns
returns c =
    let a = c.as_slice.ensures.value ∙ c.elements-a.ensures.answer in
    let b = c.as_slice-2.ensures.value ∙ c.elements-b.ensures.answer in
    record {
      answer = c.best_lag.ensures.answer
          ∙ best_pressure c.args.p.now c.args.q.now c.requires.paired.same c.requires.paired.few c.requires.low.0 c.requires.low.1 _ _ c.requires.paired.lag_below a b;
    }

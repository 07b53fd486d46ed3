use Rattle.matching.proofs.LaggedSums.{lagged_runs}
use Rattle.matching.proofs.lagged.lagged_sum.Goals as goal

pub returns : goal.returns
returns g c =
    let a = c.split_at.ensures in
    let b = c.split_at-2.ensures in
    let pair = c.requires.paired in
    record {
      answer = lagged_runs g.X.Arithmetic.meaning c.args.a.now c.args.b.now c.split_at.result.0.now c.split_at.result.1.now c.split_at-2.result.0.now c.split_at-2.result.1.now
          c.args.lag _ _ c.product-first.result c.add_products-sum.result c.add_products.result pair.lag_below pair.same a.front a.back b.front b.back c.index-early-0.is c.index-rest-0.is c.product-first.ensures
          c.add_products-sum.ensures.answer c.add_products.ensures.answer;
    }

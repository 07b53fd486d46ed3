use Rattle.writing.specs.Lending.{held}
use Rattle.matching.proofs.Granting.{fit, answered, best_lags}
use Rattle.matching.proofs.matched.Pair.best_lags.Goals as goal

pub match_paths-lag-requires : goal.match_paths-lag-requires
match_paths-lag-requires c =
    let f = fit (held c.args.self.now.a) (held c.args.self.now.b) _ c.requires.granted in
    record {
      paired = record { lag_below = f.first.some; same = f.same; few = f.first.most };
      near = (f.first.near, f.second.near);
      whole = f.whole;
    }

pub pressure_lag-pressure-requires : goal.pressure_lag-pressure-requires
pressure_lag-pressure-requires c =
    let f = fit (held c.args.self.now.a) (held c.args.self.now.b) _ c.requires.granted in
    record { sound = (f.first, f.second); same = f.same }

pub returns : goal.returns
returns c =
    let a = held c.args.self.now.a in
    let b = held c.args.self.now.b in
    let all = c.requires.granted in
    let lag = c.match_paths-lag.ensures.answer in
    let pressure = c.pressure_lag-pressure.ensures.answer in
    record {
      answer = answered a b _ all _ _ lag pressure;
      after = c.match_paths-lag.ensures.after;
      best = best_lags a b (fit a b _ all).first _ _ lag pressure;
    }

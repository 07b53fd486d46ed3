use Rattle.std.proofs.Common.{rules}
use Rattle.stroke.proofs.Beyond.{sample_there, search_answers}
use Rattle.stroke.proofs.search.Sampled.first_beyond.Goals as goal

pub returns : goal.returns
returns g c =
    let s = g.Self.Sampled.holds c.args.self.now in
    search_answers _ s _ (λ a r q k. search rules) (λ i r low k. let there = sample_there s i low in search rules) _ (search rules) _ c.find_map.ensures.runs

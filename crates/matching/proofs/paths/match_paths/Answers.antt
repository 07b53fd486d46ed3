use Rattle.std.proofs.Common.{◌≡◌, ◌∙◌, neg_ℤ, ap, length, arith, rules}
use Rattle.std.proofs.lemmas.Slice.Zip.{AllZip-long}
use Rattle.path.specs.Paths.{sampled}
use Rattle.matching.specs.Readings.{entered, entered_conj}
use Rattle.matching.proofs.Made.{made}
use Rattle.matching.proofs.WholeMatches.{all_matches, best_listed}
use Rattle.matching.proofs.paths.match_paths.Goals as goal

pub every_sum-requires : goal.every_sum-requires
every_sum-requires c =
    let first : length c.as_slice.result.now ≡ length c.args.a.now = ap length c.as_slice.ensures.value ∙ AllZip-long _ _ _ c.elements-xs.ensures.each in
    let second : length c.as_slice-2.result.now ≡ length c.args.b.now = ap length c.as_slice-2.ensures.value ∙ AllZip-long _ _ _ c.elements-ys.ensures.each in
    record { paired = record { lag_below = omega arith; same = omega arith; few = omega arith }; whole = omega arith }

pub returns : goal.returns
returns c =
    let a = c.args.a.now in
    let b = c.args.b.now in
    let pair = c.requires.paired in
    let left : c.elements-xs.result.items ≡ entered_conj a = made _ (λ p. sampled p.0 (neg_ℤ p.1)) (λ x y called. search rules) _ _ c.elements-xs.ensures.each in
    let right : c.elements-ys.result.items ≡ entered b = made _ (λ p. sampled p.0 p.1) (λ x y called. search rules) _ _ c.elements-ys.ensures.each in
    let after = c.every_sum.ensures.after
    ∙ all_matches a b pair.same pair.few c.requires.near.0 c.requires.near.1 _ _ pair.lag_below (c.as_slice.ensures.value ∙ left) (c.as_slice-2.ensures.value ∙ right) in
    record { answer = c.best_lag.ensures.answer ∙ best_listed a b c.every_sum.new.out after; after = after }

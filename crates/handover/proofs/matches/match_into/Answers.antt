use Rattle.std.proofs.Common.{map, Ok, sym, refl, ap, ◌∙◌}
use Rattle.std.specs.Result.{result_map_both}
use Rattle.matching.specs.Lags.{matches}
use Rattle.matching.specs.Matched.{matched}
use Rattle.spectrum.specs.Granted.{where_granted}
use Rattle.handover.specs.Lending.{kept}
use Rattle.handover.specs.Matching.{sum, lags}
use Rattle.crossing.proofs.Fronts.{told}
use Rattle.handover.proofs.Matching.{front_long}
use Rattle.handover.proofs.matches.match_into.Goals as goal

pub returns-in_err-found : goal.returns-in_err-found
returns-in_err-found c =
    let whole = front_long _ _ c.requires.few refl in
    let is = sym (c.in_err-found.ensures.answer ∙ (λ i. matched (c.lent.ensures.answer i) (c.lent-2.ensures.answer i) (whole i))) in
    let same = told lags _ _ is _ c.from_residual.ensures.1 in
    record {
      answer = same;
      after = ap (λ r. where_granted r (map sum (matches (kept c.args.a.now).path (kept c.args.b.now).path)) c.args.out.now) (sym (same ∙ ap (result_map_both lags (λ f. f)) is));
    }

pub returns : goal.returns
returns c =
    let a = c.lent.ensures.answer in
    let b = c.lent-2.ensures.answer in
    let whole = front_long _ _ c.requires.few refl in
    let is = c.in_ok-found.ensures.answer ∙ (λ i. matched (a i) (b i) (whole i)) in
    record {
      answer = ap Ok c.from.ensures ∙ ap (result_map_both lags (λ f. f)) is;
      after = c.copy_sums.ensures.after ∙ ap (map sum) c.in_ok-found.ensures.after ∙ (λ i. map sum (matches (a i).path (b i).path));
    }

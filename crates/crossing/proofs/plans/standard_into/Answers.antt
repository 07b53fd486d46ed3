use Rattle.std.proofs.Common.{◌<◌, ◌≤◌, length, Ok, sym, ap, ◌∙◌, arith}
use Rattle.std.specs.Result.{result_map_both}
use Rattle.plan.specs.Planned.{radices_of}
use Rattle.crossing.proofs.Fronts.{told, stays, fronted}
use Rattle.crossing.proofs.Planning.{unplanned, too_short, planned}
use Rattle.crossing.proofs.plans.standard_into.Goals as goal

pub returns-in_err-plan : goal.returns-in_err-plan
returns-in_err-plan c =
    let radices = c.args.radices.now in
    let is = unplanned (length radices) c.args.n _ c.in_err-plan.ensures.answer in
    record { answer = told length _ _ is _ c.from_residual.ensures.1; after = stays _ _ is radices }

pub returns-then-radices-count : goal.returns-then-radices-count
returns-then-radices-count c =
    let radices = c.args.radices.now in
    let rs = radices_of c.in_ok-plan.plan in
    let same = ap length c.radices-made.ensures.answer in
    let short : length radices < length rs = omega arith in
    let is = too_short (length radices) c.args.n rs c.in_ok-plan.ensures.answer short in
    record { answer = ap (result_map_both length (λ f. f)) (sym is); after = stays _ _ is radices }

pub returns : goal.returns
returns c =
    let radices = c.args.radices.now in
    let rs = radices_of c.in_ok-plan.plan in
    let made = c.radices-made.ensures.answer in
    let same = ap length made in
    let enough : length rs ≤ length radices = omega arith in
    let is = planned (length radices) c.args.n rs c.in_ok-plan.ensures.answer enough in
    record {
      answer = ap Ok same ∙ ap (result_map_both length (λ f. f)) (sym is);
      after = fronted _ rs is _ same _ radices (c.copy_from_slice.ensures.after ∙ made);
    }

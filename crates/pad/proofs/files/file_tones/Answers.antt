use Rattle.std.proofs.Common.{◌≡◌, ◌≤◌, min, length, sym, ap, ◌∙◌, rules}
use Rattle.plan.specs.Planned.{radices_of}
use Rattle.plan.specs.Radices.{size}
use Rattle.plan.specs.Standard.{standard}
use Rattle.quarter.specs.Entries.{circle}
use Rattle.spectrum.specs.Granted.{divided, lent}
use Rattle.std.specs.Result.{result_and}
use Rattle.stroke.specs.Reading.{contents}
use Rattle.pad.specs.Files.{cleared}
use Rattle.pad.proofs.Spectra.{told, tones_stay, work_stays, unread, unplanned, ungranted, granted, standard_size, part_within, part_granted, entered_long, summed, fronted}
use Rattle.pad.proofs.files.file_tones.Goals as goal

pub returns-in_err-stroke : goal.returns-in_err-stroke
returns-in_err-stroke c =
    let tones = c.args.tones.now in
    let work = c.args.work.now in
    let is = unread (length tones) (length work) c.args.bytes.now _ c.in_err-stroke.ensures.answer in
    record { answer = told _ _ is _ c.from_residual.ensures.1; after = tones_stay _ _ is tones; work = work_stays _ _ is work }

pub returns-in_err-plan : goal.returns-in_err-plan
returns-in_err-plan c =
    let tones = c.args.tones.now in
    let work = c.args.work.now in
    let none = c.in_err-plan.ensures.answer ∙ ap standard c.len.ensures in
    let is = unplanned (length tones) (length work) c.args.bytes.now (contents c.in_ok-stroke.stroke) c.in_ok-stroke.ensures.answer _ none in
    record { answer = told _ _ is _ c.from_residual-in_err-plan.ensures.1; after = tones_stay _ _ is tones; work = work_stays _ _ is work }

pub returns-in_err-granted : goal.returns-in_err-granted
returns-in_err-granted c =
    let tones = c.args.tones.now in
    let work = c.args.work.now in
    let rs = radices_of c.in_ok-plan.plan in
    let part : c.min.result ≡ min (length tones) (size rs) = c.min.ensures ∙ ap (min (length tones)) c.len-count.ensures.answer in
    let plan = c.in_ok-plan.ensures.answer ∙ ap standard c.len.ensures in
    let refused = c.in_err-granted.ensures.answer ∙ ap (λ n. result_and (divided circle (size rs)) (lent (size rs) n (length work))) part in
    let is = ungranted (length tones) (length work) c.args.bytes.now (contents c.in_ok-stroke.stroke) c.in_ok-stroke.ensures.answer rs plan _ refused in
    record { answer = told _ _ is _ c.from_residual-in_err-granted.ensures.1; after = tones_stay _ _ is tones; work = work_stays _ _ is work }

pub slice_bounds-fill-end : goal.slice_bounds-fill-end
slice_bounds-fill-end c =
    let rs = radices_of c.in_ok-plan.plan in
    let count = c.len-count.ensures.answer in
    let all = c.in_ok-granted.ensures.answer in
    let room : c.len-count.result ≤ length c.args.tones.now = part_within (size rs) _ _ (length c.args.work.now) _ count c.min.ensures all in
    search rules

pub fill-turns-requires : goal.fill-turns-requires
fill-turns-requires c =
    let rs = radices_of c.in_ok-plan.plan in
    let plan = c.in_ok-plan.ensures.answer ∙ ap standard c.len.ensures in
    let count = c.len-count.ensures.answer in
    let all = c.in_ok-granted.ensures.answer in
    record {
      whole = standard_size _ rs plan;
      granted = part_granted (size rs) _ c.args.tones.now (length c.args.work.now) _ count c.min.ensures all;
    }

pub returns : goal.returns
returns c =
    let tones = c.args.tones.now in
    let work = c.args.work.now in
    let rs = radices_of c.in_ok-plan.plan in
    let path = (contents c.in_ok-stroke.stroke).path in
    let count = c.len-count.ensures.answer in
    let plan = c.in_ok-plan.ensures.answer ∙ ap standard c.len.ensures in
    let part = c.min.ensures ∙ ap (min (length tones)) count in
    let all = c.in_ok-granted.ensures.answer ∙ ap (λ n. result_and (divided circle (size rs)) (lent (size rs) n (length work))) part in
    let is = granted (length tones) (length work) c.args.bytes.now (contents c.in_ok-stroke.stroke) c.in_ok-stroke.ensures.answer rs plan all in
    let long = entered_long rs path (standard_size _ rs plan) in
    record {
      answer = summed rs path _ _ long is count _ c.fill-turns.ensures.answer;
      after = fronted rs path _ _ long is count tones _ c.fill-turns.ensures.after;
      work = c.fill-turns.ensures.work ∙ ap (λ x. cleared x work) (sym is);
    }

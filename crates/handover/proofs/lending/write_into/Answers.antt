use Rattle.std.proofs.Common.{◌≡◌, ◌<◌, length, ap, ◌∙◌, arith}
use Rattle.std.proofs.lemmas.List.{length-map}
use Rattle.stroke.specs.Contents.{most_samples}
use Rattle.std.specs.Result.{result_map_both}
use Rattle.refusal.specs.declared.Fault.TheVariants.{Lent}
use Rattle.writing.specs.Written.{after_writing}
use Rattle.handover.specs.Lending.{pairs, lent_stroke, writing}
use Rattle.handover.proofs.Lent.{writing_refused, nothing_written}
use Rattle.handover.proofs.lending.write_into.Goals as goal

pub returns-then-path-gt-MOST_SAMPLES : goal.returns-then-path-gt-MOST_SAMPLES
returns-then-path-gt-MOST_SAMPLES c =
    let path = c.args.path.now in
    let stroke = lent_stroke path c.args.pressure.now in
    let same : length (pairs path) ≡ length path = length-map path _ in
    let long : most_samples < length stroke.path = omega arith in
    record { answer = writing_refused stroke (length c.args.out.now) long; after = nothing_written stroke c.args.out.now long }

pub returns : goal.returns
returns c =
    let stroke = c.lent.ensures.answer ∙ c.of.ensures.answer in
    let out = c.args.out.now in
    record {
      answer = ap (result_map_both (λ len. len) Lent) c.in_ok-len.ensures.answer ∙ ap (λ s. writing s (length out)) stroke;
      after = c.in_ok-len.ensures.after ∙ ap (λ s. after_writing s out) stroke;
    }

use Rattle.std.proofs.Common.{◌≡◌, ℕ, ◌-◌, ◌<◌, ◌⊎◌, length, Ok, Option, sym, ap, ◌∙◌, inl, inr, ⊎_elim, arith, rules}
use Rattle.std.specs.Result.{result_map_both}
use Rattle.std.specs.Option.{option_map}
use Rattle.std.specs.List.{slice_get}
use Rattle.std.proofs.lemmas.List.{length-map, length-take-le}
use Rattle.std.proofs.lemmas.Option.{slice_get-map}
use Rattle.stroke.specs.Contents.{pressures}
use Rattle.stroke.specs.Reading.{contents}
use Rattle.handover.specs.declared.reading.Counts.{Counts}
use Rattle.handover.specs.Reading.{counts, path_counts, heading}
use Rattle.crossing.proofs.Fronts.{told, stays, fronted}
use Rattle.handover.proofs.Files.{unread, too_short, was_read}
use Rattle.handover.proofs.reading.read_into.Goals as goal

pub returns-in_err-stroke : goal.returns-in_err-stroke
returns-in_err-stroke c =
    let path = c.args.path.now in
    let pressure = c.args.pressure.now in
    let is = unread (length path) (length pressure) c.args.bytes.now _ c.in_err-stroke.ensures.answer in
    record { answer = told heading _ _ is _ c.from_residual.ensures.1; path = stays _ _ (ap (result_map_both path_counts (λ f. f)) is) path; pressure = stays _ _ (ap (result_map_both pressures (λ f. f)) is) pressure }

pub returns-then-path-samples : goal.returns-then-path-samples
returns-then-path-samples c =
    let path = c.args.path.now in
    let pressure = c.args.pressure.now in
    let stroke = contents c.in_ok-stroke.stroke in
    let samples : c.len-samples.result ≡ length stroke.path = c.len-samples.ensures in
    let many : c.pressure_count-pressures.result ≡ length (pressures stroke) = c.pressure_count-pressures.ensures.answer in
    let short : (length path < length stroke.path) ⊎ (length pressure < length (pressures stroke)) = ⊎_elim (λ h. inl (omega (arith, h))) (λ h. inr (omega (arith, h.1))) c.then-path-samples.either in
    let is = too_short (length path) (length pressure) c.args.bytes.now stroke c.in_ok-stroke.ensures.answer short in
    record { answer = ap (result_map_both heading (λ f. f)) (sym is); path = stays _ _ (ap (result_map_both path_counts (λ f. f)) is) path; pressure = stays _ _ (ap (result_map_both pressures (λ f. f)) is) pressure }

pub returns : goal.returns
returns c =
    let path = c.args.path.now in
    let pressure = c.args.pressure.now in
    let stroke = contents c.in_ok-stroke.stroke in
    let samples : c.len-samples.result ≡ length stroke.path = c.len-samples.ensures in
    let many : c.pressure_count-pressures.result ≡ length (pressures stroke) = c.pressure_count-pressures.ensures.answer in
    let is = was_read (length path) (length pressure) c.args.bytes.now stroke c.in_ok-stroke.ensures.answer (omega arith) (omega arith) in
    let there : (i : ℕ) (found : Option Counts) → found ≡ option_map counts (slice_get stroke.path i) → found ≡ slice_get (path_counts stroke) i = λ i found is. is ∙ sym (slice_get-map counts stroke.path i) in
    let path_whole : c.len-samples.result - 0 ≡ length stroke.path = omega arith in
    let pressure_whole : c.pressure_count-pressures.result - 0 ≡ length (pressures stroke) = omega arith in
    let path_long = length-take-le (c.len-samples.result - 0) path (omega arith) ∙ path_whole ∙ sym (length-map stroke.path counts) in
    let pressure_long = length-take-le (c.pressure_count-pressures.result - 0) pressure (omega arith) ∙ pressure_whole in
    record {
      answer = (λ i. Ok (record { samples = samples i; pressures = many i })) ∙ ap (result_map_both heading (λ f. f)) (sym is);
      path = fronted _ (path_counts stroke) (ap (result_map_both path_counts (λ f. f)) is) _ (samples ∙ sym (length-map stroke.path counts)) _ path (c.copy.ensures.after (path_counts stroke) (λ i found called. there i found (search rules)) path_long);
      pressure = fronted _ (pressures stroke) (ap (result_map_both pressures (λ f. f)) is) _ many _ pressure (c.copy-2.ensures.after (pressures stroke) (λ i found called. search rules) pressure_long);
    }

use Rattle.std.proofs.Common.{◌≡◌, ◌<◌, ◌⊎◌, map, length, sym, ◌∙◌, inl, inr, arith}
use Rattle.std.proofs.lemmas.List.{length-map}
use Rattle.stroke.specs.Contents.{most_samples}
use Rattle.handover.specs.Lending.{pairs, lent_stroke}
use Rattle.std.specs.Result.{result_map_both}
use Rattle.matching.specs.Lags.{matches}
use Rattle.matching.specs.Matched.{matched}
use Rattle.spectrum.specs.Granted.{where_granted}
use Rattle.handover.specs.Matching.{sum, lags, too_long}
use Rattle.handover.proofs.Matching.{long_refused, short_matched}
use Rattle.handover.proofs.matches.match_strokes.Goals as goal
use Rattle.handover.proofs.matches.match_strokes.Goals.{then-a-gt-MOST_SAMPLES-via-then-a-gt-MOST_SAMPLES, then-a-gt-MOST_SAMPLES-via-else-a-gt-MOST_SAMPLES+then-b-gt-MOST_SAMPLES, then-a-gt-MOST_SAMPLES-via-else-a-gt-MOST_SAMPLES+else-b-gt-MOST_SAMPLES+then-out-gt-MOST_SAMPLES}

pub returns-then-a-gt-MOST_SAMPLES : goal.returns-then-a-gt-MOST_SAMPLES
returns-then-a-gt-MOST_SAMPLES c =
    let a = c.args.a.now in
    let b = c.args.b.now in
    let out = c.args.out.now in
    let first : length (pairs a) ≡ length a = length-map a _ in
    let second : length (pairs b) ≡ length b = length-map b _ in
    let long : (most_samples < length (pairs a)) ⊎ ((most_samples < length (pairs b)) ⊎ (most_samples < length out)) = elim c.then-a-gt-MOST_SAMPLES.branch [
      | then-a-gt-MOST_SAMPLES-via-then-a-gt-MOST_SAMPLES w ↦ inl (omega (arith, w.if-a-gt-MOST_SAMPLES.true))
      | then-a-gt-MOST_SAMPLES-via-else-a-gt-MOST_SAMPLES+then-b-gt-MOST_SAMPLES w ↦ inr (inl (omega (arith, w.if-b-gt-MOST_SAMPLES.true)))
      | then-a-gt-MOST_SAMPLES-via-else-a-gt-MOST_SAMPLES+else-b-gt-MOST_SAMPLES+then-out-gt-MOST_SAMPLES w ↦ inr (inr (omega (arith, w.if-out-gt-MOST_SAMPLES.true)))
    ] in
    let is = c.over_long.ensures.answer ∙ (λ i. too_long (sym first i) (c.both_pressed.ensures.answer i)) in
    record { made = long_refused (lent_stroke a c.args.p.now) (lent_stroke b c.args.q.now) _ out long _ _ is c.settled.ensures.answer }

pub returns : goal.returns
returns c =
    let first = lent_stroke c.args.a.now c.args.p.now in
    let second = lent_stroke c.args.b.now c.args.q.now in
    let a = c.of.ensures.answer in
    let b = c.of-2.ensures.answer in
    let out = c.args.out.now in
    let is = c.match_into.ensures.answer ∙ (λ i. result_map_both lags (λ f. f) (matched (a i) (b i) (length out))) in
    let after = c.match_into.ensures.after ∙ (λ i. where_granted c.match_into.result (map sum (matches (a i).path (b i).path)) out) in
    record { made = short_matched first second _ _ out _ _ _ is after c.answered.ensures.answer c.answered.ensures.out }

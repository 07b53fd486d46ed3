use Rattle.std.proofs.Common.{◌≡◌, ◌*◌, length, drop, sym, ap, ◌∙◌, arith}
use Rattle.stroke.specs.Layout.{sample_size}
use Rattle.stroke.specs.Writing.{samples_bytes, encode}
use Rattle.writing.specs.Lending.{held}
use Rattle.stroke.proofs.Encoded.{length_samples}
use Rattle.writing.proofs.Granting.{sound_lent}
use Rattle.writing.proofs.WritesBack.{written_sized, written_short, written_whole, stays, leaves, file_left, read_back}
use Rattle.writing.proofs.write.Goals as goal

pub returns-then-out-len : goal.returns-then-out-len
returns-then-out-len c =
    let s = held c.args.stroke.now in
    let size = c.in_ok-sized.ensures.answer in
    let limits = c.in_ok-within_limits.ensures.answer in
    let out = c.args.out.now in
    let wide = c.sample_size-size.ensures ∙ ap sample_size c.has_pressure-pressed.ensures in
    let short = written_short s size limits (length out) _ (written_sized s size limits _ wide) (omega arith) in
    record { answer = short; after = stays s out _ short; back = tt }

pub returns : goal.returns
returns c =
    let s = held c.args.stroke.now in
    let size = c.in_ok-sized.ensures.answer in
    let limits = c.in_ok-within_limits.ensures.answer in
    let out = c.args.out.now in
    let wide = c.sample_size-size.ensures ∙ ap sample_size c.has_pressure-pressed.ensures in
    let len = written_sized s size limits _ wide in
    let far : length s.path * c.sample_size-size.result ≡ length (samples_bytes s) = ap (λ w. length s.path * w) wide ∙ sym (length_samples s) in
    let whole = written_whole s size limits (length out) _ len (omega arith) in
    let file = file_left s c.write_samples.new.out c.copy_from_slice.new.self out _ c.has_pressure-pressed.result
    c.write_samples.ensures.after (c.copy_from_slice.ensures.after ∙ c.trailer.ensures) far c.has_pressure-pressed.ensures in
    record {
      answer = whole;
      after = file ∙ leaves s out _ whole;
      back = read_back s (sound_lent s size limits) _ _ (drop (length (encode s)) out) len file;
    }

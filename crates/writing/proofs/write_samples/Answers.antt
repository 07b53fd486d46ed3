use Rattle.std.proofs.Common.{◌≡◌, length, sym, ◌∙◌, arith}
use Rattle.writing.specs.Lending.{held}
use Rattle.stroke.specs.Writing.{sample_bytes}
use Rattle.stroke.proofs.Encoded.{length_sample}
use Rattle.writing.proofs.Filling.{filled_more, filled_all}
use Rattle.writing.proofs.write_samples.Goals as goal

pub loop-i-preserved : goal.loop-i-preserved
loop-i-preserved c =
    filled_more (sample_bytes (held c.args.stroke.now)) c.args.size c.args.out.now (λ i. length_sample (held c.args.stroke.now) i ∙ sym c.requires.size)
    c.loop-i.i c.loop-i.out c.write_sample.new.part c.loop-i.invariant c.write_sample.ensures.after

pub returns : goal.returns
returns c =
    let n = length c.args.stroke.now.path.now in
    let end : c.loop-i.i ≡ n = omega arith in
    record { after = filled_all (sample_bytes (held c.args.stroke.now)) c.args.size c.args.out.now n c.loop-i.out (rw end at c.loop-i.invariant) c.requires.whole }

use Rattle.std.proofs.Common.{length, replicate, sym, ◌∙◌, arith}
use Rattle.std.proofs.lemmas.List.{ext_get_or, length-replicate, get_or-replicate}
use Rattle.spectrum.proofs.engine.clear.Goals as goal

pub returns : goal.returns
returns g c =
    let zero = g.X.Arithmetic.meaning.zero in
    let n = length c.args.work.now in
    record {
      after = ext_get_or zero c.loop-x.work (replicate n zero) (c.loop-x.auto.work ∙ sym (length-replicate n zero))
          (λ k h. c.loop-x.invariant k (omega arith) ∙ sym (get_or-replicate n k zero zero (omega arith)));
    }

use Rattle.std.proofs.Common.{arith}
use Rattle.std.proofs.lemmas.List.{take_more}
use Rattle.std.proofs.lemmas.Slice.Zip.{all_zipped_more}
use Rattle.matching.specs.Lags.{origin}
use Rattle.matching.proofs.paths.elements.Goals as goal

pub loop-sample-preserved : goal.loop-sample-preserved
loop-sample-preserved g c = (
  omega arith,
  rw (c.push.ensures.items, take_more c.args.path.now c.loop-sample.sample-index origin c.loop-sample-test.true)
      (all_zipped_more _ _ _ _ _ c.loop-sample.invariant.1 c.enter.ensures),
)

use Rattle.std.proofs.Common.{◌≡◌, ◌∙◌, arith}
use Rattle.spectrum.proofs.Columns.{columns_more, columns_all}
use Rattle.spectrum.proofs.shape.Shape.combine.Goals as goal

pub loop-j-preserved : goal.loop-j-preserved
loop-j-preserved g c =
    columns_more g.X.Arithmetic.meaning _ c.loop-j.invariant c.loop-j-test.true c.column.ensures.after

pub returns : goal.returns
returns g c =
    let s = c.args.self.now in
    let end : c.loop-j.j ≡ s.len = omega arith in
    record { after = columns_all g.X.Arithmetic.meaning c.loop-j.invariant end s.sound.parts (c.loop-j.auto.block ∙ c.requires.whole) }

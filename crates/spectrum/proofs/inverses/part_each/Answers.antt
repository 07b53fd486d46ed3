use Rattle.std.proofs.Common.{◌++◌, map, length, take, set, sym, ap, ◌∙◌, arith}
use Rattle.std.proofs.lemmas.List.{append-nil, take_all, drop_all}
use Rattle.std.proofs.lemmas.List.Edits.{map_over_more}
use Rattle.spectrum.proofs.inverses.part_each.Goals as goal

pub loop-x-preserved : goal.loop-x-preserved
loop-x-preserved g c =
    let f : g.row.X.Denot → g.row.X.Denot = λ x. g.X.Arithmetic.meaning.part x (length c.args.buf.now) in
    let ys = c.loop-x.buf in
    let i = c.loop-x.x-index in
    let x = c.x-item.result in
    ap (set ys i) (c.part.ensures ∙ ap f (sym c.x-item.is))
    ∙ map_over_more f c.args.buf.now ys i x c.loop-x-test.true c.loop-x.invariant c.x-item.is

pub returns : goal.returns
returns g c =
    let f : g.row.X.Denot → g.row.X.Denot = λ x. g.X.Arithmetic.meaning.part x (length c.args.buf.now) in
    let xs = c.args.buf.now in
    let i = c.loop-x.x-index in
    record {
      after = c.loop-x.invariant ∙ ap (λ ys. map f (take i xs) ++ ys) (drop_all i xs (omega arith)) ∙ append-nil (map f (take i xs))
          ∙ ap (map f) (take_all i xs (omega arith));
    }

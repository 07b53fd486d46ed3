use Rattle.cells.proofs.Filling.{not_refused, filled_cells, filled_holds}
use Rattle.sheet.proofs.opening.open.Goals as goal

pub returns-in_err-transform : goal.returns-in_err-transform
returns-in_err-transform g c =
    let a = c.args in
    absurd
    (not_refused g.X.Arithmetic.meaning a.radices.now c.in_ok-n.n a.cells.now a.work.now _ _ c.in_ok-n.ensures.answer c.if-work-n.false c.copy_from_slice.ensures.after c.copy_from_slice-2.ensures.after _
    c.in_err-transform.ensures.answer)

pub returns-clause-after : goal.returns-clause-after
returns-clause-after g c =
    filled_cells g.X.Arithmetic.meaning c.args.radices.now c.in_ok-n.n c.args.cells.now c.args.work.now _ _ c.in_ok-n.ensures.answer c.if-work-n.false c.copy_from_slice.ensures.after c.copy_from_slice-2.ensures.after _ c.in_ok-transform.ensures.after

pub returns-clause-sheet : goal.returns-clause-sheet
returns-clause-sheet g c =
    filled_holds g.X.Arithmetic.meaning c.args.radices.now c.in_ok-n.n c.args.cells.now c.args.work.now _ _ c.in_ok-n.ensures.answer c.if-work-n.false c.copy_from_slice.ensures.after c.copy_from_slice-2.ensures.after _ c.in_ok-transform.ensures.after g.met.X.Arithmetic.lawful

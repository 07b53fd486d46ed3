use Rattle.cells.proofs.Granting.{fits_from_granted, numbered_within}
use Rattle.cells.proofs.CellsAfter.{edited_cells}
use Rattle.cells.proofs.sheets.Sheet.edit.Goals as goal

pub returns-clause-after : goal.returns-clause-after
returns-clause-after g c =
    let m = g.X.Arithmetic.meaning in
    let n = c.args.self.now.n in
    let fits = fits_from_granted m n _ c.in_ok-fits.ensures.answer in
    edited_cells m n _ fits.whole c.args.i c.args.v _ _ _ (numbered_within _ _ c.in_ok-within.ensures.answer) c.difference-change.ensures c.edit_tones.ensures.after

use Rattle.std.proofs.Common.{◌-◌, ◌≤◌, length, take, ◌∙◌, arith, length-take}
use Rattle.spectra.specs.Moves.{shifted}
use Rattle.cells.specs.Cells.{tones_shifted}
use Rattle.cells.proofs.Granting.{fits_from_granted, numbered_within}
use Rattle.cells.proofs.Halves.{halves_put}
use Rattle.cells.proofs.CellsAfter.{rotated}
use Rattle.cells.proofs.sheets.Sheet.shift.Goals as goal

pub returns-clause-after : goal.returns-clause-after
returns-clause-after g c =
    let m = g.X.Arithmetic.meaning in
    let n = c.args.self.now.n in
    let h = c.args.h in
    let fits = fits_from_granted m n _ c.in_ok-fits.ensures.answer in
    let within = numbered_within n h c.in_ok-within.ensures.answer in
    let room : h ≤ length (take (n - 0) c.args.self.now.cells.now) = simp length-take (omega arith) in
    halves_put _ _ fits.whole (shifted m.zero h) (tones_shifted m h) _ _ c.rotate_left.auto.self (c.rotate_left.ensures.after ∙ rotated m.zero h _ room) c.shift_tones.ensures.after

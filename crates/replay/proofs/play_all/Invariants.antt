use Rattle.std.proofs.Common.{◌≡◌, ◌++◌, map, take, drop}
use Rattle.cells.specs.Played.{sheet_finally, sheet_answers}
use Rattle.cells.specs.Lent.{cells_of, length_of, Kept}
use Rattle.replay.specs.Replaying.{plainly}
use Rattle.replay.proofs.play_all.Given as goal

abbrev pub invariant-loop-i : goal.invariant-loop-i
invariant-loop-i g l =
    let m = g.X.Arithmetic.meaning in
    let n = length_of l.initial.sheet in
    let left = map plainly (drop l.i l.calls) in
    Kept l.initial.sheet l.sheet
    × (sheet_finally m n left (cells_of l.sheet) ≡ sheet_finally m n (map plainly l.calls) (cells_of l.initial.sheet))
    × (take l.i l.answers ++ sheet_answers m n left (cells_of l.sheet) ≡ sheet_answers m n (map plainly l.calls) (cells_of l.initial.sheet))

use Rattle.std.proofs.Common.{◌≡◌, ◌++◌, map, length, take, drop}
use Rattle.spectrum.proofs.inverses.part_each.Given as goal

abbrev pub invariant-loop-x : goal.invariant-loop-x
invariant-loop-x g l =
    l.buf ≡ map (λ x. g.X.Arithmetic.meaning.part x (length l.initial.buf)) (take l.x-index l.initial.buf) ++ drop l.x-index l.initial.buf

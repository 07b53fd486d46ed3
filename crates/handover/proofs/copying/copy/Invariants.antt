use Rattle.std.proofs.Common.{◌≡◌, ℕ, List, length, take, Option}
use Rattle.std.specs.List.{slice_get}
use Rattle.handover.proofs.copying.copy.Given as goal

-- the first i items are written
abbrev pub invariant-loop-i : goal.invariant-loop-i
invariant-loop-i g l =
    (items : List _) → ((i : ℕ) (found : Option _) → goal.F-post g l.item i found → found ≡ slice_get items i) → length l.fn.out ≡ length items
    → take l.i l.out ≡ take l.i items

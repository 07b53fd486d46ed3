-- A sheet from its opening on.
use Rattle.std.proofs.Common.{◌≡◌, ℕ, List, length, take, sym, subst, arith}
use Rattle.std.proofs.lemmas.List.{length-take-le}
use Rattle.arithmetic.specs.Laws.{Divides}
use Rattle.arithmetic.specs.Meaning.{Meaning}
use Rattle.plan.specs.Radices.{size}
use Rattle.cells.specs.Holding.{Holds}
use Rattle.cells.specs.Opening.{filled}
use Rattle.cells.specs.Plain.{plain_finally, plain_answers}
use Rattle.cells.specs.Played.{sheet_finally, sheet_answers}
use Rattle.cells.specs.SheetLaws.{OpeningHolds, RunFollows}
use Rattle.agreement.specs.Agreement.{OpenedFollows}

pub opened_follows : {A R : Type 0} (m : Meaning A R) → OpeningHolds m → RunFollows m → OpenedFollows m
opened_follows {A} m opens run rs cells divides long cs =
    let a : List A = take (size rs) cells in
    let whole : length a ≡ size rs = length-take-le (size rs) cells (omega arith) in
    let all = run a (filled m rs cells) (subst (λ (n : ℕ). Divides n m.span) (sym whole) divides) (opens rs cells divides long) cs in
    subst (λ (n : ℕ). (sheet_answers m n cs (filled m rs cells) ≡ plain_answers m cs a) × Holds m (plain_finally m cs a) (sheet_finally m n cs (filled m rs cells))) whole all

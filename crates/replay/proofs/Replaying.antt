-- A replay keeps up with the plain sheet.
use Rattle.std.proofs.Common.{◌≡◌, ℕ, List, length, take, Option, Ok, Result, ap, ◌∙◌, subst}
use Rattle.arithmetic.specs.Meaning.{Meaning}
use Rattle.arithmetic.specs.Laws.{Lawful, Divides}
use Rattle.plan.specs.Radices.{size}
use Rattle.refusal.specs.declared.Fault.{Fault}
use Rattle.cells.specs.Plain.{PlainCall, plain_finally, plain_answers}
use Rattle.cells.specs.Holding.{Holds}
use Rattle.cells.specs.Opening.{sized, opened}
use Rattle.cells.specs.Played.{sheet_finally, sheet_answers}
use Rattle.cells.proofs.Granting.{Fits, sized_from_granted, fits_from_granted}
use Rattle.replay.proofs.Opened.{opened_length}
use Rattle.cells.proofs.Halves.{length_samples}
use Rattle.cells.proofs.SheetLaws.{sheet_laws}

-- a sheet of n samples, opened over the cells and then played to the end
module _ {A R : Type 0} {m : Meaning A R} (law : Lawful m) (rs : List ℕ) (j n work : ℕ) (cells : List A) (sizes : Ok j ≡ sized m rs (length cells)) (opens : Ok n ≡ opened m rs (length cells) work)
    (start : List A) (holds : Holds m (take n cells) start) (cs : List (PlainCall A)) where
  played_as_plain : (sheet_answers m n cs start ≡ plain_answers m cs (take n cells)) × Holds m (plain_finally m cs (take n cells)) (sheet_finally m n cs start)
  played_as_plain =
      let sheet = (sized_from_granted m rs (length cells) j sizes).sheet in
      let fits : Fits m n (length cells) = rw (opened_length m rs (length cells) n work opens) (fits_from_granted m (size rs) (length cells) sheet) in
      let a = take n cells in
      let long : length a ≡ n = length_samples n cells fits.whole in
      let z : Divides (length a) m.span = rw long fits.divides in
      let Run : ℕ → Type 0 = λ k. (sheet_answers m k cs start ≡ plain_answers m cs a) × Holds m (plain_finally m cs a) (sheet_finally m k cs start) in
      subst Run long ((sheet_laws law).run fits.exact a start z holds cs)

  pub replayed_answers : (answers : List (Result (Option R) Fault)) → answers ≡ sheet_answers m n cs start → answers ≡ plain_answers m cs (take (size rs) cells)
  replayed_answers answers is = is ∙ played_as_plain.0 ∙ ap (λ k. plain_answers m cs (take k cells)) (opened_length m rs (length cells) n work opens)

  pub replayed_holds : (left : List A) → left ≡ sheet_finally m n cs start → Holds m (plain_finally m cs (take (size rs) cells)) left
  replayed_holds left is =
      subst (λ k. Holds m (plain_finally m cs (take k cells)) left) (opened_length m rs (length cells) n work opens) (rw is played_as_plain.1)

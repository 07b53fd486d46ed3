-- What holds of sheets over exact arithmetics: each keeps up with the plain sheet that is asked the same.
use Rattle.std.specs.Prelude.{◌≡◌, ℕ, ◌*◌, true, List, length, take}
use Rattle.arithmetic.specs.Meaning.{Meaning}
use Rattle.arithmetic.specs.Laws.{Divides}
use Rattle.plan.specs.Radices.{size}
use Rattle.cells.specs.Plain.{PlainCall, plain_after, plain_answer, plain_finally, plain_answers}
use Rattle.cells.specs.Holding.{Holds}
use Rattle.cells.specs.Opening.{filled}
use Rattle.cells.specs.Played.{sheet_after, sheet_answer, sheet_finally, sheet_answers}

-- opening makes a sheet of the samples
abbrev pub OpeningHolds : {A R : Type 0} → Meaning A R → Type 0
OpeningHolds {A} m =
    (rs : List ℕ) (cells : List A) → Divides (size rs) m.span → length cells ≡ 2 * size rs →
    Holds m (take (size rs) cells) (filled m rs cells)

-- one call: the answer is the plain sheet's, and the cells hold its samples and their defining sums
abbrev pub CallFollows : {A R : Type 0} → Meaning A R → Type 0
CallFollows {A} m =
    (a cells : List A) → Divides (length a) m.span → Holds m a cells → (c : PlainCall A) →
    (sheet_answer m (length a) c cells ≡ plain_answer m c a) × Holds m (plain_after m c a) (sheet_after m (length a) c cells)

-- any list of calls, granted and refused: every answer is the plain sheet's, and so are the samples at the end
abbrev pub RunFollows : {A R : Type 0} → Meaning A R → Type 0
RunFollows {A} m =
    (a cells : List A) → Divides (length a) m.span → Holds m a cells → (cs : List (PlainCall A)) →
    (sheet_answers m (length a) cs cells ≡ plain_answers m cs a) × Holds m (plain_finally m cs a) (sheet_finally m (length a) cs cells)

-- all of that, over an arithmetic that says whether it is exact
pub record SheetLaws {A R : Type 0} (m : Meaning A R) : Type 0 where
  pub opens : m.exact ≡ true → OpeningHolds m
  pub call : m.exact ≡ true → CallFollows m
  pub run : m.exact ≡ true → RunFollows m

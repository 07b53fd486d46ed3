-- The laws of sheets, over any lawful arithmetic: call by call, and so over any list of calls.
use Rattle.std.proofs.Common.{◌≡◌, ℕ, ◌+◌, Bool, true, false, cond, List, [], ◌∷◌, ◌++◌, length, get_or, drop, Some, is_ok, Ok, Err, Result, sym, refl, ap, ◌∙◌, subst}
use Rattle.std.specs.Result.{result_and}
use Rattle.std.proofs.lemmas.List.{get_or-drop}
use Rattle.arithmetic.specs.Meaning.{Meaning}
use Rattle.arithmetic.specs.Laws.{Lawful, Divides}
use Rattle.arithmetic.proofs.Ladder.{ExactLaws, exact_laws}
use Rattle.refusal.specs.declared.Fault.{Fault}
use Rattle.spectra.proofs.SpectraByPlace.{value_of_tone}
use Rattle.cells.specs.Plain.{PlainCall, edit, shift, mirror, lay, tone, plainly_granted, moved, told, plain_after, plain_answer, plain_finally, plain_answers}
use Rattle.cells.specs.Cells.{granted, followed, tones_after}
use Rattle.cells.specs.Holding.{Holds}
use Rattle.cells.specs.Played.{sheet_told, sheet_after, sheet_answer, sheet_finally, sheet_answers}
use Rattle.cells.specs.SheetLaws.{OpeningHolds, CallFollows, RunFollows, SheetLaws}
use Rattle.cells.proofs.Granting.{numbered_within, sheet_granted, both_granted}
use Rattle.cells.proofs.MovedSheets.{length_moved, holds_both, length_held, tones_follow}
use Rattle.cells.proofs.Filling.{holds_filled}
use Rattle.cells.proofs.Halves.{length_samples}

pub length_after : {A R : Type 0} (m : Meaning A R) (c : PlainCall A) (a : List A) → length (plain_after m c a) ≡ length a
length_after {A} m c a =
    let either : (b : Bool) → length (cond b (moved m c a) a) ≡ length a =
    λ b. elim b as (λ v. length (cond v (moved m c a) a) ≡ length a) [ true ↦ length_moved m c a | false ↦ refl ] in
    either (is_ok (plainly_granted (length a) c))

module _ {A R : Type 0} {m : Meaning A R} (law : ExactLaws m) (exact : m.exact ≡ true) (a cells : List A) (z : Divides (length a) m.span) (h : Holds m a cells) where
  -- over a sheet, only what the plain sheet refuses is refused
  granted_as_plain : (c : PlainCall A) → granted m (length a) c cells ≡ plainly_granted (length a) c
  granted_as_plain c = sym (both_granted _ _ (sheet_granted m (length a) (length cells) z exact (length_held m a cells h)))

  told_as_plain : (c : PlainCall A) → Ok tt ≡ plainly_granted (length a) c → sheet_told m (length a) c cells ≡ told m c a
  told_as_plain (edit i v) granted = refl
  told_as_plain (shift i) granted = refl
  told_as_plain mirror granted = refl
  told_as_plain (lay b) granted = refl
  told_as_plain (tone k) granted =
      let y = drop (length a) cells in
      let cell : get_or cells (length a + k) m.zero ≡ get_or y k m.zero = sym (get_or-drop (length a) cells k m.zero) in
      let value = value_of_tone m a y h.sums k (numbered_within (length a) k granted) in
      ap Some (ap m.reading cell ∙ sym (law.exact.reading_of_value (get_or y k m.zero)) ∙ ap m.reading value)

  followed_holds : (c : PlainCall A) → Ok tt ≡ plainly_granted (length a) c → Holds m (moved m c a) (followed m (length a) c cells)
  followed_holds c granted =
      let y = drop (length a) cells in
      let same : followed m (length a) c cells ≡ moved m c a ++ tones_after m c a y = ap (λ x. moved m c x ++ tones_after m c x y) h.samples in
      rw same (holds_both m (moved m c a) (tones_after m c a y) (tones_follow law a y z h.sums c granted))

  -- by what the plain sheet says of the call
  by_grant : (c : PlainCall A) (r : Result (Unit {0}) Fault) → r ≡ plainly_granted (length a) c →
      (result_and r (Ok (sheet_told m (length a) c cells)) ≡ result_and r (Ok (told m c a))) × Holds m (cond (is_ok r) (moved m c a) a) (cond (is_ok r) (followed m (length a) c cells) cells)
  by_grant c (Ok done) is = (ap Ok (told_as_plain c is), followed_holds c is)
  by_grant c (Err f) is = (refl, h)

  one_call : (c : PlainCall A) → (sheet_answer m (length a) c cells ≡ plain_answer m c a) × Holds m (plain_after m c a) (sheet_after m (length a) c cells)
  one_call c = rw (granted_as_plain c) (by_grant c (plainly_granted (length a) c) refl)

module _ {A R : Type 0} {m : Meaning A R} (law : ExactLaws m) (exact : m.exact ≡ true) where
  pub opening_holds : OpeningHolds m
  opening_holds rs cells z whole = holds_filled law rs _ z (length_samples _ cells whole)

  pub call_follows : CallFollows m
  call_follows a cells z h c = one_call law exact a cells z h c

  pub run_follows : RunFollows m
  run_follows a cells z h [] = (refl, h)
  run_follows a cells z h (c ∷ cs) =
      let one = call_follows a cells z h c in
      let next = plain_after m c a in
      let left = sheet_after m (length a) c cells in
      let long = length_after m c a in
      let Rest : ℕ → Type 0 = λ n. (sheet_answers m n cs left ≡ plain_answers m cs next) × Holds m (plain_finally m cs next) (sheet_finally m n cs left) in
      let rest : Rest (length a) = subst Rest long (run_follows next left (rw long z) one.1 cs) in
      (ap (λ x. x ∷ sheet_answers m (length a) cs left) one.0 ∙ ap (λ xs. plain_answer m c a ∷ xs) rest.0, rest.1)

pub sheet_laws : {A R : Type 0} {m : Meaning A R} → Lawful m → SheetLaws m
sheet_laws law = record {
  opens = λ is. opening_holds (exact_laws law is) is;
  call = λ is. call_follows (exact_laws law is) is;
  run = λ is. run_follows (exact_laws law is) is;
}

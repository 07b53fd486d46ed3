-- Calls played one after the other.
use Rattle.std.proofs.Common.{◌≡◌, ℕ, ◌+◌, ◌<◌, ◌≤◌, List, [], ◌∷◌, ◌++◌, map, length, get_or, take, drop, set, Option, Result, sym, ap, ◌∙◌}
use mathlib.Core.Path.{◌≡⟨◌⟩◌, ◌∎}
use Rattle.std.proofs.lemmas.List.{append-nil, append_assoc, take_all, take_more_set, at_drop_more, at_drop_all}
use Rattle.arithmetic.specs.Meaning.{Meaning}
use Rattle.refusal.specs.declared.Fault.{Fault}
use Rattle.replay.specs.declared.calls.Call.{Call}
use Rattle.cells.specs.Played.{sheet_answer, sheet_after, sheet_finally, sheet_answers}
use Rattle.replay.specs.Replaying.{plainly}

-- one call more of a list, and one answer
module _ {A R : Type 0} (m : Meaning A R) (n : ℕ) (calls : List (Call A)) (i : ℕ) (cells : List A) where
  pub finally_more : (call : Call A) (left : List A) → i < length calls → call ≡ get_or calls i call → left ≡ sheet_after m n (plainly call) cells →
      sheet_finally m n (map plainly (drop (i + 1) calls)) left ≡ sheet_finally m n (map plainly (drop i calls)) cells
  finally_more call left l read is =
      let next : sheet_finally m n (map plainly (drop i calls)) cells ≡ sheet_finally m n (map plainly (drop (i + 1) calls)) (sheet_after m n (plainly (get_or calls i call)) cells) =
      at_drop_more (λ cs. sheet_finally m n (map plainly cs) cells) calls i call l in
      ap (sheet_finally m n (map plainly (drop (i + 1) calls))) (is ∙ ap (λ c. sheet_after m n (plainly c) cells) read) ∙ sym next

  pub finally_all : length calls ≤ i → sheet_finally m n (map plainly (drop i calls)) cells ≡ cells
  finally_all l = at_drop_all (λ cs. sheet_finally m n (map plainly cs) cells) calls i l

  pub answers_more : (call : Call A) (left : List A) (answers : List (Result (Option R) Fault)) (answer : Result (Option R) Fault) → i < length calls → i < length answers → call ≡ get_or calls i call → left ≡ sheet_after m n (plainly call) cells → answer ≡ sheet_answer m n (plainly call) cells →
      take (i + 1) (set answers i answer) ++ sheet_answers m n (map plainly (drop (i + 1) calls)) left ≡ take i answers ++ sheet_answers m n (map plainly (drop i calls)) cells
  answers_more call left answers answer l room read is says =
      let rest : List A → List (Result (Option R) Fault) = sheet_answers m n (map plainly (drop (i + 1) calls)) in
      let next : sheet_answers m n (map plainly (drop i calls)) cells ≡ sheet_answer m n (plainly (get_or calls i call)) cells ∷ rest (sheet_after m n (plainly (get_or calls i call)) cells) =
      at_drop_more (λ cs. sheet_answers m n (map plainly cs) cells) calls i call l in
      take (i + 1) (set answers i answer) ++ rest left ≡⟨ ap (λ xs. xs ++ rest left) (take_more_set answers i answer room) ∙ append_assoc (take i answers) (answer ∷ []) (rest left) ⟩
      take i answers ++ (answer ∷ rest left) ≡⟨ ap (λ x. take i answers ++ (x ∷ rest left)) (says ∙ ap (λ c. sheet_answer m n (plainly c) cells) read) ⟩
      take i answers ++ (sheet_answer m n (plainly (get_or calls i call)) cells ∷ rest left) ≡⟨ ap (λ xs. take i answers ++ (sheet_answer m n (plainly (get_or calls i call)) cells ∷ rest xs)) (is ∙ ap (λ c. sheet_after m n (plainly c) cells) read) ∙ ap (λ xs. take i answers ++ xs) (sym next) ⟩
      take i answers ++ sheet_answers m n (map plainly (drop i calls)) cells ∎

  pub answers_all : (answers : List (Result (Option R) Fault)) → length calls ≤ i → length answers ≤ i → take i answers ++ sheet_answers m n (map plainly (drop i calls)) cells ≡ answers
  answers_all answers l k =
      ap (λ xs. take i answers ++ xs) (at_drop_all (λ cs. sheet_answers m n (map plainly cs) cells) calls i l) ∙ append-nil (take i answers) ∙ take_all i answers k

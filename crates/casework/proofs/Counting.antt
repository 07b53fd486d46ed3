-- How many items are collected from a chain.
use Rattle.std.proofs.Common.{◌≡◌, ℕ, ◌+◌, ◌≤◌, List, [], ◌∷◌, ◌++◌, length, map, Option, None, Result, IfOk, Vec, Bor, ap, ◌∙◌, sym, refl, subst, arith}
use denote.Param.Members.{Mut}
use Rattle.std.proofs.lemmas.Iterator.{YieldsList, items_from_drains, maps}
use Rattle.std.proofs.lemmas.List.{length-append, length-map}
use Rattle.std.proofs.lemmas.Result.{IfOk-weaker}
use Rattle.std.specs.Char.{is_not_whitespace}
use Rattle.std.specs.Iterator.{TryCollects, Yields}
use Rattle.std.specs.Iterator.Adapters.{map_source}
use Rattle.std.specs.List.{FoldsTo}
use Rattle.std.specs.Str.{NoCharPasses}
use Rattle.std.specs.Str.Iter.{split_whitespace_rest, split_whitespace_steps}
use Rattle.std.specs.Vec.{vec_items, vec_len, vec_capacity}
use Rattle.std.specs.declared.iter.Map.{Map}
use Rattle.std.specs.declared.str.SplitWhitespace.{SplitWhitespace}
use Rattle.casework.specs.Listed.{BeginsWith, Parted, HasWords}

module _ {A B : Type 0} (long : B → ℕ) (R : B → A → B → Type 0) (one : (p q : B) (x : A) → R p x q → long q ≡ long p + 1) where
  -- each item makes it longer by one
  folded_long : (xs : List A) (b v : B) → FoldsTo R b xs v → long v ≡ long b + length xs
  folded_long [] b v is = let same = ap long is in omega arith
  folded_long (x ∷ xs) b v is =
      let step = one b is.0 x is.1 in
      let more = folded_long xs is.0 v is.2 in
      omega arith

  -- so from none it is as long as there are items
  folded_from_none : (xs : List A) (b v : B) → long b ≡ 0 → FoldsTo R b xs v → long v ≡ length xs
  folded_from_none xs b v none is = let more = folded_long xs b v is in omega arith

-- what is collected from a chain, into a list that begins empty
abbrev Collected : {S A Y F Z : Type 0} → (S → Option A → S → Type 0) → (A → Result Y F → Type 0) → S → Vec Y Z → Type 0
Collected steps settles s v = TryCollects steps settles (λ xs w. (vec_items w ≡ xs) × (vec_len w ≡ length xs)) (λ w xs x. (vec_items x ≡ vec_items w ++ xs) × (vec_len x ≡ vec_len w + length xs) × (vec_capacity w ≤ vec_capacity x)) s v

-- it has as many items as came
as_many : {S A Y F Z : Type 0} (steps : S → Option A → S → Type 0) (settles : A → Result Y F → Type 0) (s : S) (v : Vec Y Z) → (is : Collected steps settles s v) → length (vec_items v) ≡ length is.0
as_many steps settles s v is = folded_from_none (λ w. length (vec_items w)) _ (λ p q x step. ap length step.2.0 ∙ length-append (vec_items p) (step.0 ∷ [])) is.0 is.1 v (ap length is.3.0) is.4

-- the list that is collected has as many items as the chain yields
pub counted : {S A Y F E X Z : Type 0} {steps : S → Option A → S → Type 0} {s : S} (settles : A → Result Y F → Type 0) (r : Result (Vec Y Z) E) → IfOk r (Collected steps settles s)
    → (pieces : List X) → YieldsList steps (λ _. tt {0}) s (map (λ _. tt {0}) pieces) → IfOk r (λ v. length (vec_items v) ≡ length pieces)
counted {steps = steps} {s = s} settles r ran pieces yields = IfOk-weaker r _ _ (λ v is.
    let drains = is.2 in
    let all = items_from_drains is.0 (drains.1.0, drains.1.1, λ _. (drains.0, drains.1.2)) yields in
    as_many steps settles s v is ∙ (sym (length-map is.0 _) ∙ ap length all ∙ length-map pieces _)) ran

module _ {F R : Type 0} (g : Mut F (Bor (List ℕ) × Unit {0}) R) where
  -- as many items as come of the words of a text, so many words it has
  worded : (xs : List R) (s t u : Map SplitWhitespace F) → Yields (maps split_whitespace_steps g) s xs t → maps split_whitespace_steps g t None u
      → HasWords (split_whitespace_rest (map_source s)) (length xs)
  worded [] s t u same last = ([], subst (λ m. NoCharPasses is_not_whitespace (split_whitespace_rest (map_source m))) (sym same) last.0.1, refl)
  worded (x ∷ xs) s t u yields last =
      let word = yields.1.0 in
      let cut = yields.1.1 in
      let more = worded xs yields.0 t u yields.2 last in
      let begins : BeginsWith word.now (split_whitespace_rest (map_source yields.0)) (split_whitespace_rest (map_source s)) = record { gap = cut.0; whole = cut.1; some = cut.2; blank = cut.3; unparted = cut.4; ends = cut.5 } in
      (word.now ∷ more.0, (split_whitespace_rest (map_source yields.0), begins, more.1), omega (arith, more.2))

  -- the list that is collected of the words of a text has as many items as the text has words
  pub counted_words : {Y E X Z : Type 0} (settles : R → Result Y E → Type 0) (text : List ℕ) (s : Map SplitWhitespace F) → split_whitespace_rest (map_source s) ≡ text → (r : Result (Vec Y Z) X) → IfOk r (Collected (maps split_whitespace_steps g) settles s)
      → IfOk r (λ v. HasWords text (length (vec_items v)))
  counted_words settles text s whole r ran = IfOk-weaker r _ _ (λ v is.
      let drains = is.2 in
      let all = worded is.0 s drains.1.0 drains.0 drains.1.1 drains.1.2 in
      (all.0, subst (λ bs. Parted bs all.0) whole all.1, as_many (maps split_whitespace_steps g) settles s v is ∙ all.2)) ran

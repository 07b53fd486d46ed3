-- A list that is copied place by place, and the pressures of a stroke.
use Rattle.std.proofs.Common.{◌≡◌, ℕ, ◌+◌, ◌<◌, Bool, true, false, List, [], ◌∷◌, ◌++◌, length, take, set, is_some, Some, None, sym, ap, ◌∙◌, arith}
use Rattle.std.specs.List.{slice_get, range_with_len}
use Rattle.std.proofs.lemmas.List.{take_more, take_more_set, length-map}
use Rattle.std.proofs.lemmas.Option.{slice_get_within, get_or_from_slice_get, gets}
use Rattle.stroke.specs.Contents.{pressures}
use Rattle.stroke.specs.Reading.{stroke_of}

module _ {X : Type 0} (xs : List X) where
  pub copied_more : (i : ℕ) (out : List X) (x : X) → slice_get xs i ≡ Some x → i < length out → take i out ≡ take i xs → take (i + 1) (set out i x) ≡ take (i + 1) xs
  copied_more i out x there room so_far =
      take_more_set out i x room ∙ ap (λ ys. ys ++ x ∷ []) so_far ∙ ap (λ y. take i xs ++ y ∷ []) (sym (get_or_from_slice_get xs i x x there))
      ∙ sym (take_more xs i x (slice_get_within xs i x there))

  pub none_there : (i : ℕ) → slice_get xs i ≡ None → i < length xs → ⊥
  none_there i none below = grind (arith, gets)

-- where there are pressures, there are as many as samples
pub as_many : (pressed : Bool) (bs : List ℕ) → is_some (stroke_of pressed bs).pressure ≡ true → length (stroke_of pressed bs).path ≡ length (pressures (stroke_of pressed bs))
as_many true bs is = length-map (range_with_len 0 _) _ ∙ sym (length-map (range_with_len 0 _) _)
as_many false bs is = let z : ◌≡◌ {A = ℕ} 0 1 = cc in absurd (omega arith)

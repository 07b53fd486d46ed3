-- A list that was made item by item.
use Rattle.std.proofs.Common.{◌≡◌, List, [], ◌∷◌, map, refl}
use Rattle.std.specs.List.{AllZip}

pub made : {A B : Type 0} (Q : A → B → Type 0) (v : A → B) → ((x : A) (y : B) → Q x y → y ≡ v x) → (xs : List A) (ys : List B) → AllZip Q xs ys → ys ≡ map v xs
made Q v is [] [] all = refl
made Q v is [] (y ∷ ys) all = absurd all
made Q v is (x ∷ xs) [] all = absurd all
made Q v is (x ∷ xs) (y ∷ ys) all = λ i. is x y all.0 i ∷ made Q v is xs ys all.1 i

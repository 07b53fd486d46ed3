-- Lists made by a function, place by place. Assumes nothing.
use Rattle.std.proofs.Common.{◌≡◌, ℕ, zero, suc, List, [], ◌∷◌, ◌++◌, map, get_or, sym, refl, ap, ◌∙◌}
use Rattle.std.specs.List.{flat_map}
use Rattle.std.proofs.lemmas.List.{map-append}

-- what holds of f everywhere, and of d, holds at each place of a list made by f
pub map_at : {A B : Type 0} (P : B → Type 0) (f : A → B) (d : B) → ((x : A) → P (f x)) → P d → (xs : List A) (t : ℕ) → P (get_or (map f xs) t d)
map_at P f d each none [] t = none
map_at P f d each none (x ∷ xs) zero = each x
map_at P f d each none (x ∷ xs) (suc t) = map_at P f d each none xs t

pub get_or_map_of : {A B : Type 0} (f : A → B) (d : A) (xs : List A) (t : ℕ) → get_or (map f xs) t (f d) ≡ f (get_or xs t d)
get_or_map_of f d [] t = refl
get_or_map_of f d (x ∷ xs) zero = refl
get_or_map_of f d (x ∷ xs) (suc t) = get_or_map_of f d xs t

pub joined_map : {X A B : Type 0} (f : A → B) (g : X → List A) (qs : List X) → flat_map (λ q. map f (g q)) qs ≡ map f (flat_map g qs)
joined_map f g [] = refl
joined_map f g (q ∷ qs) = ap (λ xs. map f (g q) ++ xs) (joined_map f g qs) ∙ sym (map-append f (g q) (flat_map g qs))

-- A list that is copied element by element, as far as there are any.
use Rattle.std.proofs.Common.{◌≡◌, ℕ, ◌+◌, ◌≤◌, true, List, [], ◌∷◌, ◌++◌, length, take, is_some, IfSome, Some, None, Option, unwrap_or, sym, ap, ◌∙◌, arith}
use Rattle.std.specs.List.{slice_get, AllByRecursion}
use Rattle.std.proofs.lemmas.List.{take_all, take_more}
use Rattle.std.proofs.lemmas.Option.{slice_get_within, get_or_from_slice_get, gets}
use Rattle.stroke.specs.Contents.{Contents, Sound, limit, pressures}

module _ {X : Type 0} (xs : List X) (i : ℕ) (out : List X) (so_far : out ≡ take i xs) where
  pub copied_more : (new : List X) (x : X) → slice_get xs i ≡ Some x → new ≡ out ++ x ∷ [] → new ≡ take (i + 1) xs
  copied_more new x there added =
      added ∙ ap (λ ys. ys ++ x ∷ []) so_far ∙ ap (λ y. take i xs ++ y ∷ []) (sym (get_or_from_slice_get xs i x x there))
      ∙ sym (take_more xs i x (slice_get_within xs i x there))

  pub none_more : slice_get xs i ≡ None → out ≡ take (i + 1) xs
  none_more none =
      let past : length xs ≤ i = grind (arith, gets) in
      so_far ∙ take_all i xs past ∙ sym (take_all (i + 1) xs (omega arith))

few_of : (o : Option (List ℕ)) (len : ℕ) → IfSome o (λ us. (length us ≡ len) × AllByRecursion (λ u. u ≤ limit) us) → length (unwrap_or o []) ≤ len
few_of (Some us) len long = omega (arith, long.0)
few_of None len long = omega arith

pub few_pressures : (c : Contents) → Sound c → length (pressures c) ≤ length c.path
few_pressures c h = few_of c.pressure (length c.path) h.pressed

-- pressures that are there are the list of them
pub there : (o : Option (List ℕ)) (us : List ℕ) → is_some o ≡ true → us ≡ unwrap_or o [] → Some us ≡ o
there (Some vs) us is copied = ap Some copied
there None us is copied = cc

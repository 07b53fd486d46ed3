-- Lists by index: what `nth` finds, and what holds at every index.
use Rattle.std.proofs.Common.{◌≡◌, ℕ, ◌<◌, ◌≤◌, List, map, length, get_or, Some, ap, ◌∙◌, ⊎_elim, arith}
use Rattle.std.specs.List.{slice_get, range_with_len, AllByRecursion}
use Rattle.std.proofs.lemmas.List.FromFn.{length-map-range_with_len, get_or-map-range_with_len}
use Rattle.std.proofs.ByRecursion.{All-get_or}
use Rattle.std.proofs.lemmas.List.{get_or_past}
use Rattle.std.proofs.lemmas.Option.{slice_get-get_or}
use Rattle.std.proofs.lemmas.Bool.{cases_lt}

pub nth_map_counting : {X : Type 0} (f : ℕ → X) (n i : ℕ) → i < n → slice_get (map f (range_with_len 0 n)) i ≡ Some (f i)
nth_map_counting f n i h =
    slice_get-get_or (map f (range_with_len 0 n)) i (f i) (omega (arith, length-map-range_with_len f 0 n)) ∙ ap Some (get_or-map-range_with_len f 0 n i i (f i) h (omega arith))

-- past the end, too, if it holds of the default
pub all_at : {X : Type 0} (P : X → Type 0) (xs : List X) (d : X) → P d → AllByRecursion P xs → (i : ℕ) → P (get_or xs i d)
all_at P xs d default all i =
    ⊎_elim
    (λ (less : i < length xs). All-get_or P xs i d less all)
    (λ (past : length xs ≤ i). rw (get_or_past xs i d past) default)
    (cases_lt i (length xs))

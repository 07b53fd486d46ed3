-- Lists made place by place: equal where they agree at each place.
use Rattle.std.proofs.Common.{◌≡◌, ℕ, ◌<◌, List, map, length, get_or, ◌∙◌, zero-add, arith}
use Rattle.std.specs.List.{range_with_len}
use Rattle.std.proofs.lemmas.List.{get_or-map, length-map}
use Rattle.std.proofs.lemmas.List.FromFn.{fill_by_all, length-map-range_with_len, get_or-map-range_with_len}

module _ {A : Type 0} (d : A) where
  pub at_place : (f : ℕ → A) (n k : ℕ) → k < n → get_or (map f (range_with_len 0 n)) k d ≡ f k
  at_place f n k h = get_or-map-range_with_len f 0 n k k d h (zero-add k)

  pub same_by_place : (f g : ℕ → A) (n : ℕ) → ((k : ℕ) → k < n → f k ≡ g k) → map f (range_with_len 0 n) ≡ map g (range_with_len 0 n)
  same_by_place f g n h =
      fill_by_all g (map f (range_with_len 0 n)) n d (length-map-range_with_len f 0 n) (λ k l. at_place f n k l ∙ h k l)

  pub map_by_place : (h : A → A) (g : ℕ → A) (xs : List A) (n : ℕ) → length xs ≡ n → ((k : ℕ) → k < n → h (get_or xs k d) ≡ g k) → map h xs ≡ map g (range_with_len 0 n)
  map_by_place h g xs n long each =
      fill_by_all g (map h xs) n d (length-map xs h ∙ long) (λ k l. get_or-map h xs k d d (omega arith) ∙ each k l)

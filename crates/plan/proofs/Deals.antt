-- The dealt list, place by place.
use Rattle.std.proofs.Common.{◌≡◌, ℕ, zero, suc, ◌+◌, ◌*◌, ◌/◌, ◌%◌, ◌<◌, List, [], ◌∷◌, ◌++◌, length, get_or, sym, ap, ◌∙◌, not-suc-le-zero, add-zero, zero-add, zero-mul, arith}
use Rattle.std.specs.List.{range_with_len, flat_map}
use Rattle.std.proofs.lemmas.List.{length-append, get_or_append_left, get_or-append-add, ext_get_or}
use Rattle.std.proofs.lemmas.List.FromFn.{length-range_with_len, length-map-range_with_len, get_or-map-range_with_len}
use Rattle.std.proofs.lemmas.Nat.{div-add-mod', div_below, mod_below}
use Rattle.plan.specs.Radices.{size}
use Rattle.plan.specs.Dealing.{every, dealt, place, source}
use Rattle.plan.proofs.Sizes.{left_positive, right_positive}
use Rattle.plan.proofs.Places.{place_below, place_source, source_below}

-- lists of one length, one after the other
module _ {A : Type 0} (f : ℕ → List A) (n : ℕ) (each : (q : ℕ) → length (f q) ≡ n) where
  pub length_joined : (qs : List ℕ) → length (flat_map f qs) ≡ length qs * n
  length_joined [] = sym (zero-mul n)
  length_joined (q ∷ qs) =
      let one = each q in
      let more = length_joined qs in
      length-append (f q) (flat_map f qs) ∙ omega arith

  pub joined_at : (d : A) (r a q j : ℕ) → q < r → j < n → get_or (flat_map f (range_with_len a r)) (q * n + j) d ≡ get_or (f (a + q)) j d
  joined_at d zero a q j h l = absurd (not-suc-le-zero h)
  joined_at d (suc r) a zero j h l =
      let here : 0 * n + j ≡ j = omega arith in
      let long = each a in
      ap (λ x. get_or (f a ++ flat_map f (range_with_len (a + 1) r)) x d) here
      ∙ get_or_append_left (f a) (flat_map f (range_with_len (a + 1) r)) d j (omega arith)
      ∙ ap (λ x. get_or (f x) j d) (sym (add-zero a))
  joined_at d (suc r) a (suc q) j h l =
      let long = each a in
      let there : suc q * n + j ≡ length (f a) + (q * n + j) = omega arith in
      let next : a + 1 + q ≡ a + suc q = omega arith in
      ap (λ x. get_or (f a ++ flat_map f (range_with_len (a + 1) r)) x d) there
      ∙ get_or-append-add (f a) (flat_map f (range_with_len (a + 1) r)) (q * n + j) d
      ∙ joined_at d r (a + 1) q j (omega arith) l
      ∙ ap (λ x. get_or (f x) j d) next

module _ {A : Type 0} (d : A) where
  pub length_every : (r len : ℕ) (a : List A) (q : ℕ) → length (every d r len a q) ≡ len
  length_every r len a q = length-map-range_with_len (λ i. get_or a (q + r * i) d) 0 len

  pub length_dealt : (rs : List ℕ) (a : List A) → length a ≡ size rs → length (dealt d rs a) ≡ size rs
  unfolding dealt
  length_dealt [] a long = long
  length_dealt (r ∷ rs) a long =
      length_joined (λ q. dealt d rs (every d r (size rs) a q)) (size rs) (λ q. length_dealt rs (every d r (size rs) a q) (length_every r (size rs) a q)) (range_with_len 0 r)
      ∙ ap (λ k. k * size rs) (length-range_with_len 0 r)

  -- sample n stands at its place
  pub dealt_at : (rs : List ℕ) → 0 < size rs → (a : List A) (n : ℕ) → n < size rs → get_or (dealt d rs a) (place rs n) d ≡ get_or a n d
  unfolding dealt
  dealt_at [] pos a n h = let none : n ≡ 0 = omega arith in ap (λ x. get_or a x d) (sym none)
  dealt_at (r ∷ rs) pos a n h =
      let len = size rs in
      let low = left_positive r len pos in
      let some = right_positive r len pos in
      let q = n % r in
      let i = n / r in
      let within : i < len = div_below n r len low (omega arith) in
      let part : ℕ → List A = λ x. dealt d rs (every d r len a x) in
      let whole : q + r * i ≡ n = omega (arith, div-add-mod' n r) in
      joined_at part len (λ x. length_dealt rs (every d r len a x) (length_every r len a x)) d r 0 q (place rs i) (mod_below n r low) (place_below rs some i)
      ∙ ap (λ x. get_or (part x) (place rs i) d) (zero-add q)
      ∙ dealt_at rs some (every d r len a q) i within
      ∙ get_or-map-range_with_len (λ x. get_or a (q + r * x) d) 0 len i i d within (zero-add i)
      ∙ ap (λ x. get_or a x d) whole

  -- at place p stands the sample that comes there
  pub dealt_from : (rs : List ℕ) → 0 < size rs → (a : List A) (p : ℕ) → p < size rs → get_or (dealt d rs a) p d ≡ get_or a (source rs p) d
  dealt_from rs pos a p h =
      ap (λ x. get_or (dealt d rs a) x d) (sym (place_source rs pos p h)) ∙ dealt_at rs pos a (source rs p) (source_below rs pos p h)

  -- a list with every sample at its place is the dealt list
  pub dealt_all : (rs : List ℕ) → 0 < size rs → (a out : List A) → length a ≡ size rs → length out ≡ size rs → ((n : ℕ) → n < size rs → get_or out (place rs n) d ≡ get_or a n d) → out ≡ dealt d rs a
  dealt_all rs pos a out long wide each =
      let deals = length_dealt rs a long in
      let at : (p : ℕ) → p < size rs → get_or out p d ≡ get_or a (source rs p) d =
      λ p h. ap (λ x. get_or out x d) (sym (place_source rs pos p h)) ∙ each (source rs p) (source_below rs pos p h) in
      ext_get_or d out (dealt d rs a) (wide ∙ sym deals) (λ p h. at p (omega arith) ∙ sym (dealt_from rs pos a p (omega arith)))

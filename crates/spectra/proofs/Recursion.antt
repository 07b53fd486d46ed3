-- The stages on a dealt list give the tones of the recursion.
--
-- A stage works on whole blocks, so all stages of the radices after r work apart on each of the r dealt lists that
-- stand one after the other. By induction they make each of them its tones, and the stage of r combines these.
use Rattle.std.proofs.Common.{◌≡◌, ℕ, zero, suc, ◌+◌, ◌*◌, ◌/◌, ◌<◌, ◌≤◌, List, [], ◌∷◌, ◌++◌, length, take, drop, sym, refl, ap, ◌∙◌, append_assoc, append-nil, mul_assoc, suc-add, one-mul, zero-add, zero-mul, mul-div_cancel, arith}
use native.Mathlib.Nat.{zero-div, div_self, mul-add-div_right}
use Rattle.std.specs.List.{range_with_len, flat_map}
use Rattle.std.proofs.lemmas.List.{length-append, length-drop, take-append-le, drop-append-le, take_all, drop_all, nil_from_length}
use Rattle.std.proofs.lemmas.List.FromFn.{length-range_with_len, length-map-range_with_len}
use Rattle.arithmetic.specs.Meaning.{Meaning}
use Rattle.plan.specs.Radices.{size}
use Rattle.plan.specs.Dealing.{every, dealt}
use Rattle.plan.proofs.Sizes.{right_positive}
use Rattle.plan.proofs.Deals.{length_joined, length_every, length_dealt}
use Rattle.spectra.specs.Tones.{tone, combine, tones}
use Rattle.spectra.specs.Stages.{blocks, staged, stages}

pub combine_length : {A R : Type 0} (m : Meaning A R) (r len : ℕ) (xs : List A) → length (combine m r len xs) ≡ r * len
unfolding combine
combine_length m r len xs = length-map-range_with_len (tone m r len xs) 0 (r * len)

module _ {A : Type 0} (f : List A → List A) (n : ℕ) where
  blocks_append : (c d : ℕ) (xs ys : List A) → length xs ≡ c * n → blocks f n (c + d) (xs ++ ys) ≡ blocks f n c xs ++ blocks f n d ys
  unfolding blocks
  blocks_append zero d xs ys long =
      let none : xs ≡ [] = nil_from_length xs (long ∙ zero-mul n) in
      ap (λ k. blocks f n k (xs ++ ys)) (zero-add d) ∙ ap (λ x. blocks f n d (x ++ ys)) none ∙ ap (λ x. x ++ blocks f n d ys) (sym none)
  blocks_append (suc c) d xs ys long =
      let room : n ≤ length xs = omega arith in
      let rest : length (drop n xs) ≡ c * n = length-drop n xs ∙ omega arith in
      ap (λ k. blocks f n k (xs ++ ys)) (suc-add c d)
      ∙ ap (λ x. f x ++ blocks f n (c + d) (drop n (xs ++ ys))) (take-append-le n xs ys room)
      ∙ ap (λ x. f (take n xs) ++ blocks f n (c + d) x) (drop-append-le n xs ys room)
      ∙ ap (λ x. f (take n xs) ++ x) (blocks_append c d (drop n xs) ys rest)
      ∙ sym (append_assoc (f (take n xs)) (blocks f n c (drop n xs)) (blocks f n d ys))

  length_blocks : ((zs : List A) → length (f zs) ≡ n) → (c : ℕ) (xs : List A) → length xs ≡ c * n → length (blocks f n c xs) ≡ length xs
  unfolding blocks
  length_blocks each zero xs long = refl
  length_blocks each (suc c) xs long =
      let rest : length (drop n xs) ≡ c * n = length-drop n xs ∙ omega arith in
      let more = length_blocks each c (drop n xs) rest in
      let one = each (take n xs) in
      length-append (f (take n xs)) (blocks f n c (drop n xs)) ∙ omega arith

  blocks_one : (xs : List A) → length xs ≡ n → blocks f n 1 xs ≡ f xs
  unfolding blocks
  blocks_one xs long =
      ap (λ x. f x ++ drop n xs) (take_all n xs (omega arith)) ∙ ap (λ x. f xs ++ x) (drop_all n xs (omega arith)) ∙ append-nil (f xs)

joined_same : {A : Type 0} (f g : ℕ → List A) → ((q : ℕ) → f q ≡ g q) → (qs : List ℕ) → flat_map f qs ≡ flat_map g qs
joined_same f g h [] = refl
joined_same f g h (q ∷ qs) = ap (λ x. x ++ flat_map f qs) (h q) ∙ ap (λ x. g q ++ x) (joined_same f g h qs)

module _ {A R : Type 0} (m : Meaning A R) where
  module _ (r len : ℕ) (pos : 0 < r * len) where
    staged_append : (c : ℕ) (xs ys : List A) → length xs ≡ c * (r * len) → staged m r len (xs ++ ys) ≡ staged m r len xs ++ staged m r len ys
    unfolding staged
    staged_append c xs ys long =
        let n = r * len in
        let f = combine m r len in
        let all : length (xs ++ ys) / n ≡ c + length ys / n = ap (λ x. x / n) (length-append xs ys ∙ ap (λ x. x + length ys) long) ∙ mul-add-div_right pos c (length ys) in
        let here : c ≡ length xs / n = sym (ap (λ x. x / n) long ∙ mul-div_cancel c pos) in
        ap (λ k. blocks f n k (xs ++ ys)) all ∙ blocks_append f n c (length ys / n) xs ys long
        ∙ ap (λ k. blocks f n k xs ++ blocks f n (length ys / n) ys) here

    length_staged : (c : ℕ) (xs : List A) → length xs ≡ c * (r * len) → length (staged m r len xs) ≡ length xs
    unfolding staged
    length_staged c xs long =
        let n = r * len in
        let here : length xs / n ≡ c = ap (λ x. x / n) long ∙ mul-div_cancel c pos in
        ap (λ k. length (blocks (combine m r len) n k xs)) here ∙ length_blocks (combine m r len) n (combine_length m r len) c xs long

    staged_one : (xs : List A) → length xs ≡ r * len → staged m r len xs ≡ combine m r len xs
    unfolding staged
    staged_one xs long =
        let n = r * len in
        let here : length xs / n ≡ 1 = ap (λ x. x / n) long ∙ div_self pos in
        ap (λ k. blocks (combine m r len) n k xs) here ∙ blocks_one (combine m r len) n xs long

  staged_none : (r len : ℕ) → staged m r len [] ≡ []
  unfolding staged blocks
  staged_none r len = ap (λ k. blocks (combine m r len) (r * len) k []) (zero-div (r * len))

  stages_none : (rs : List ℕ) → stages m rs [] ≡ []
  unfolding stages
  stages_none [] = refl
  stages_none (r ∷ rs) = ap (staged m r (size rs)) (stages_none rs) ∙ staged_none r (size rs)

  pub stages_end : (xs : List A) → xs ≡ stages m [] xs
  unfolding stages
  stages_end xs = refl

  pub stages_more : (r : ℕ) (rs : List ℕ) (xs : List A) → staged m r (size rs) (stages m rs xs) ≡ stages m (r ∷ rs) xs
  unfolding stages
  stages_more r rs xs = refl

  pub length_stages : (rs : List ℕ) → 0 < size rs → (c : ℕ) (xs : List A) → length xs ≡ c * size rs → length (stages m rs xs) ≡ length xs
  unfolding stages
  length_stages [] pos c xs long = refl
  length_stages (r ∷ rs) pos c xs long =
      let below = length_stages rs (right_positive r (size rs) pos) (c * r) xs (long ∙ sym (mul_assoc c r (size rs))) in
      length_staged r (size rs) pos c (stages m rs xs) (below ∙ long) ∙ below

  pub stages_append : (rs : List ℕ) → 0 < size rs → (c : ℕ) (xs ys : List A) → length xs ≡ c * size rs → stages m rs (xs ++ ys) ≡ stages m rs xs ++ stages m rs ys
  unfolding stages
  stages_append [] pos c xs ys long = refl
  stages_append (r ∷ rs) pos c xs ys long =
      let less = right_positive r (size rs) pos in
      let apart = long ∙ sym (mul_assoc c r (size rs)) in
      ap (staged m r (size rs)) (stages_append rs less (c * r) xs ys apart)
      ∙ staged_append r (size rs) pos c (stages m rs xs) (stages m rs ys) (length_stages rs less (c * r) xs apart ∙ long)

  stages_joined : (rs : List ℕ) → 0 < size rs → (f : ℕ → List A) → ((q : ℕ) → length (f q) ≡ size rs) → (qs : List ℕ) → stages m rs (flat_map f qs) ≡ flat_map (λ q. stages m rs (f q)) qs
  stages_joined rs pos f each [] = stages_none rs
  stages_joined rs pos f each (q ∷ qs) =
      stages_append rs pos 1 (f q) (flat_map f qs) (each q ∙ sym (one-mul (size rs)))
      ∙ ap (λ x. stages m rs (f q) ++ x) (stages_joined rs pos f each qs)

  pub length_tones : (rs : List ℕ) (a : List A) → length a ≡ size rs → length (tones m rs a) ≡ size rs
  unfolding tones
  length_tones [] a long = long
  length_tones (r ∷ rs) a long = combine_length m r (size rs) (flat_map (λ q. tones m rs (every m.zero r (size rs) a q)) (range_with_len 0 r))

  pub stages_dealt : (rs : List ℕ) → 0 < size rs → (a : List A) → length a ≡ size rs → stages m rs (dealt m.zero rs a) ≡ tones m rs a
  unfolding stages dealt tones
  stages_dealt [] pos a long = refl
  stages_dealt (r ∷ rs) pos a long =
      let less = right_positive r (size rs) pos in
      let part : ℕ → List A = every m.zero r (size rs) a in
      let wide : (q : ℕ) → length (part q) ≡ size rs = length_every m.zero r (size rs) a in
      let done : ℕ → List A = λ q. tones m rs (part q) in
      let whole : length (flat_map done (range_with_len 0 r)) ≡ r * size rs =
      length_joined done (size rs) (λ q. length_tones rs (part q) (wide q)) (range_with_len 0 r) ∙ ap (λ k. k * size rs) (length-range_with_len 0 r) in
      ap (staged m r (size rs))
      (stages_joined rs less (λ q. dealt m.zero rs (part q)) (λ q. length_dealt m.zero rs (part q) (wide q)) (range_with_len 0 r)
      ∙ joined_same (λ q. stages m rs (dealt m.zero rs (part q))) done (λ q. stages_dealt rs less (part q) (wide q)) (range_with_len 0 r))
      ∙ staged_one r (size rs) pos (flat_map done (range_with_len 0 r)) whole

-- After the stages of the last radices each block of a dealt list holds the tones of its samples.
--
-- Dealing by the first radices alone puts every P-th sample into one block, P their product, and the last radices deal
-- the samples of a block among themselves. The stages of the last radices work on whole blocks, so on each apart.
use Rattle.std.proofs.Common.{◌≡◌, ℕ, zero, suc, ◌+◌, ◌*◌, ◌/◌, ◌%◌, ◌<◌, ◌≤◌, List, [], ◌∷◌, ◌++◌, length, get_or, take, drop, sym, refl, ap, ◌∙◌, not-suc-le-zero, mul-le-mul_right, mul_assoc, mul-le-mul_left, one-mul, zero-add, zero-mul, arith}
use lib.Seq.{drop-append-add}
use Rattle.std.specs.List.{range_with_len, flat_map}
use Rattle.std.proofs.lemmas.List.{length-drop, length-take-le, take-append-drop, take-append-le, drop-append-le, take_at, drop_at, take_all}
use Rattle.std.proofs.lemmas.List.FromFn.{fill_by_all}
use Rattle.std.proofs.lemmas.Nat.{div-add-mod', div_below, mod_below}
use Rattle.arithmetic.specs.Meaning.{Meaning}
use Rattle.plan.specs.Radices.{size}
use Rattle.plan.specs.Dealing.{every, dealt, source}
use Rattle.plan.proofs.Sizes.{left_positive, right_positive}
use Rattle.plan.proofs.Places.{source_below}
use Rattle.plan.proofs.Deals.{length_every, length_dealt}
use Rattle.spectra.specs.Stages.{stages}
use Rattle.spectra.specs.ByBlocks.{block, block_samples, ByBlocks}
use Rattle.spectra.proofs.ByPlace.{at_place, same_by_place}
use Rattle.spectra.proofs.Recursion.{stages_append, length_stages, stages_dealt}

pub size_take_drop : (k : ℕ) (rs : List ℕ) → size (take k rs) * size (drop k rs) ≡ size rs
size_take_drop zero rs = one-mul (size rs)
size_take_drop (suc k) [] = refl
size_take_drop (suc k) (r ∷ rs) =
    mul_assoc r (size (take k rs)) (size (drop k rs)) ∙ ap (λ x. r * x) (size_take_drop k rs)

-- block b is within c blocks
block_room : (b c n : ℕ) → b < c → b * n + n ≤ c * n
block_room b c n h = let more : suc b * n ≤ c * n = mul-le-mul_right n h in omega arith

-- the blocks of lists of c blocks each, one list after the other
module _ {A : Type 0} (f : ℕ → List A) (c n : ℕ) (each : (q : ℕ) → length (f q) ≡ c * n) where
  block_joined : (r s q b : ℕ) → q < r → b < c → block n (q * c + b) (flat_map f (range_with_len s r)) ≡ block n b (f (s + q))
  block_joined zero s q b h l = absurd (not-suc-le-zero h)
  block_joined (suc r) s zero b h l =
      let rest = flat_map f (range_with_len (s + 1) r) in
      let long = each s in
      let room = block_room b c n l in
      let here : 0 * c + b ≡ b = omega arith in
      let there : s ≡ s + 0 = omega arith in
      ap (λ x. block n x (f s ++ rest)) here ∙ ap (take n) (drop-append-le (b * n) (f s) rest (omega arith))
      ∙ take-append-le n (drop (b * n) (f s)) rest (omega (arith, length-drop (b * n) (f s)))
      ∙ ap (λ x. block n b (f x)) there
  block_joined (suc r) s (suc q) b h l =
      let rest = flat_map f (range_with_len (s + 1) r) in
      let long = each s in
      let past : (suc q * c + b) * n ≡ length (f s) + (q * c + b) * n = omega arith in
      let next : s + 1 + q ≡ s + suc q = omega arith in
      ap (λ x. take n (drop x (f s ++ rest))) past ∙ ap (take n) (drop-append-add (f s) rest ((q * c + b) * n))
      ∙ block_joined r (s + 1) q b (omega arith) l ∙ ap (λ x. block n b (f x)) next

module _ {A : Type 0} (d : A) where
  pub every_one : (n : ℕ) (a : List A) → length a ≡ n → every d 1 n a 0 ≡ a
  every_one n a long =
      sym (fill_by_all (λ i. get_or a (0 + 1 * i) d) a n d long (λ k h. let here : k ≡ 0 + 1 * k = omega arith in ap (λ x. get_or a x d) here))

  -- every p-th of every r-th sample is every (r p)-th
  every_every : (r p n len : ℕ) (a : List A) (q s : ℕ) → s < p → len ≡ p * n → every d p n (every d r len a q) s ≡ every d (r * p) n a (q + r * s)
  every_every r p n len a q s low wide =
      same_by_place d (λ i. get_or (every d r len a q) (s + p * i) d) (λ i. get_or a (q + r * s + r * p * i) d) n
      (λ i h.
      let up : p * suc i ≤ p * n = mul-le-mul_left p h in
      let there : q + r * (s + p * i) ≡ q + r * s + r * p * i = omega arith in
      at_place d (λ x. get_or a (q + r * x) d) len (s + p * i) (omega arith) ∙ ap (λ x. get_or a x d) there)

  -- where no radix deals, the whole list is one block
  block_whole : (rs : List ℕ) (a : List A) → length a ≡ size rs → (b : ℕ) → b < 1 → block (size rs) b (dealt d rs a) ≡ dealt d rs (block_samples d [] rs a b)
  block_whole rs a long b h =
      let n = size rs in
      let none : b * n ≡ 0 = let zero : b ≡ 0 = omega arith in ap (λ x. x * n) zero ∙ zero-mul n in
      let wide = length_dealt d rs a long in
      ap (λ x. take n (drop x (dealt d rs a))) none ∙ take_all n (dealt d rs a) (omega arith)
      ∙ ap (dealt d rs) (sym (every_one n a long))

  pub block_dealt : (k : ℕ) (rs : List ℕ) → 0 < size rs → (a : List A) → length a ≡ size rs → (b : ℕ) → b < size (take k rs) → block (size (drop k rs)) b (dealt d rs a) ≡ dealt d (drop k rs) (block_samples d (take k rs) (drop k rs) a b)
  unfolding dealt
  block_dealt zero rs pos a long b h = block_whole rs a long b h
  block_dealt (suc k) [] pos a long b h = block_whole [] a long b h
  block_dealt (suc k) (r ∷ rs) pos a long b h =
      let len = size rs in
      let p = size (take k rs) in
      let n = size (drop k rs) in
      let whole : len ≡ p * n = sym (size_take_drop k rs) in
      let less = right_positive r len pos in
      let some : 0 < p = left_positive p n (omega arith) in
      let part : ℕ → List A = every d r len a in
      let wide : (q : ℕ) → length (part q) ≡ len = length_every d r len a in
      let deals : ℕ → List A = λ q. dealt d rs (part q) in
      let q = b / p in
      let j = b % p in
      let within : j < p = mod_below b p some in
      ap (λ x. block n x (flat_map deals (range_with_len 0 r))) (sym (div-add-mod' b p))
      ∙ block_joined deals p n (λ x. length_dealt d rs (part x) (wide x) ∙ whole) r 0 q j (div_below b p r some h) within
      ∙ ap (λ x. block n j (deals x)) (zero-add q) ∙ block_dealt k rs less (part q) (wide q) j within
      ∙ ap (dealt d (drop k rs)) (every_every r p n len a q (source (take k rs) j) (source_below (take k rs) some j within) whole)

module _ {A R : Type 0} (m : Meaning A R) where
  -- the stages work on each block apart
  block_stages : (rs : List ℕ) → 0 < size rs → (c : ℕ) (xs : List A) → length xs ≡ c * size rs → (b : ℕ) → b < c → block (size rs) b (stages m rs xs) ≡ stages m rs (block (size rs) b xs)
  block_stages rs pos c xs long b h =
      let n = size rs in
      let front = take (b * n) xs in
      let back = drop (b * n) xs in
      let room = block_room b c n h in
      let before : length front ≡ b * n = length-take-le (b * n) xs (omega arith) in
      let one : length (take n back) ≡ 1 * n = length-take-le n back (omega (arith, length-drop (b * n) xs)) ∙ sym (one-mul n) in
      ap (λ x. block n b (stages m rs x)) (sym (take-append-drop (b * n) xs))
      ∙ ap (λ x. block n b x) (stages_append m rs pos b front back before)
      ∙ ap (take n) (drop_at (stages m rs front) (stages m rs back) (b * n) (length_stages m rs pos b front before ∙ before))
      ∙ ap (λ x. take n (stages m rs x)) (sym (take-append-drop n back))
      ∙ ap (take n) (stages_append m rs pos 1 (take n back) (drop n back) one)
      ∙ take_at (stages m rs (take n back)) (stages m rs (drop n back)) n (length_stages m rs pos 1 (take n back) one ∙ one ∙ one-mul n)

  pub by_blocks : (k : ℕ) (rs : List ℕ) → 0 < size rs → (a : List A) → length a ≡ size rs → ByBlocks m (take k rs) (drop k rs) a (stages m (drop k rs) (dealt m.zero rs a))
  by_blocks k rs pos a long =
      let first = take k rs in
      let last = drop k rs in
      let deals = dealt m.zero rs a in
      let whole = size_take_drop k rs in
      let some : 0 < size last = right_positive (size first) (size last) (omega arith) in
      let wide : length deals ≡ size first * size last = length_dealt m.zero rs a long ∙ sym whole in
      let samples = block_dealt m.zero k rs pos a long in
      record {
        samples = λ b h. ap (λ x. block (size last) b (dealt m.zero x a)) (take-append-drop k rs) ∙ samples b h;
        blocks = λ b h.
            block_stages last some (size first) deals wide b h ∙ ap (stages m last) (samples b h)
            ∙ stages_dealt m last some (block_samples m.zero first last a b) (length_every m.zero (size first) (size last) a (source first b));
      }

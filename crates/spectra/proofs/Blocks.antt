-- A list worked on block by block.
use Rattle.std.proofs.Common.{◌≡◌, ℕ, suc, ◌+◌, ◌-◌, ◌*◌, ◌/◌, ◌%◌, ◌<◌, ◌≤◌, List, ◌++◌, length, take, drop, sym, ap, ◌∙◌, append_assoc, mul-le-mul_right, mul_comm, arith}
use borrow.Rule.Slice.PartMut.{put_mid}
use Rattle.std.proofs.lemmas.List.{drop-drop, take-append-drop}
use Rattle.std.proofs.lemmas.Slice.{take-put_mid, drop-put_mid}
use Rattle.spectra.specs.Stages.{blocks}
use Rattle.spectra.proofs.Circle.{quotient_whole}

-- the first b of c blocks of n done
pub record Blocks {A : Type 0} (f : List A → List A) (n c b from : ℕ) (before after : List A) : Type 0 where
  pub start : from ≡ b * n
  pub onward : take from after ++ blocks f n (c - b) (drop from after) ≡ blocks f n c before

pub block_within : (b from n size : ℕ) → b < size / n → from ≡ b * n → size % n ≡ 0 → from + n ≤ size
block_within b from n size h at z =
    let up : suc b * n ≤ (size / n) * n = mul-le-mul_right n h in
    omega (arith, quotient_whole size n z)

pub blocks_end : (b from n size : ℕ) → b ≡ size / n → from ≡ b * n → size % n ≡ 0 → from ≡ size
blocks_end b from n size end at z =
    at ∙ ap (λ x. x * n) end ∙ mul_comm (size / n) n ∙ sym (quotient_whole size n z)

module _ {A : Type 0} (f : List A → List A) (n c : ℕ) where
  step : (left from : ℕ) (ys ws : List A) → from + n ≤ length ys → ws ≡ f (take n (drop from ys)) → length ws ≡ n → take (from + n) (put_mid from n ys ws) ++ blocks f n left (drop (from + n) (put_mid from n ys ws)) ≡ take from ys ++ blocks f n (suc left) (drop from ys)
  unfolding blocks
  step left from ys ws within is long =
      let front = take-put_mid from n ys ws (from + n) (omega arith) (omega arith) in
      let back = drop-put_mid from n ys ws (from + n) (omega arith) (omega arith) long ∙ sym (drop-drop n from ys) in
      ap (λ x. x ++ blocks f n left (drop (from + n) (put_mid from n ys ws))) front
      ∙ ap (λ x. (take from ys ++ ws) ++ blocks f n left x) back
      ∙ append_assoc (take from ys) ws (blocks f n left (drop n (drop from ys)))
      ∙ ap (λ x. take from ys ++ (x ++ blocks f n left (drop n (drop from ys)))) is

  pub blocks_more : {b from : ℕ} {xs ys : List A} (ws : List A) → Blocks f n c b from xs ys → b < c → from + n ≤ length ys → ws ≡ f (take n (drop from ys)) → length ws ≡ n → Blocks f n c (b + 1) (from + n) xs (put_mid from n ys ws)
  blocks_more {b} {from} {xs} {ys} ws s h within is long =
      let left : c - b ≡ suc (c - (b + 1)) = omega arith in
      record {
        start = let at = s.start in omega arith;
        onward = step (c - (b + 1)) from ys ws within is long ∙ ap (λ x. take from ys ++ blocks f n x (drop from ys)) (sym left) ∙ s.onward;
      }

  pub blocks_all : {b from : ℕ} {xs ys : List A} → Blocks f n c b from xs ys → b ≡ c → ys ≡ blocks f n c xs
  unfolding blocks
  blocks_all {b} {from} {xs} {ys} s end =
      let none : c - b ≡ 0 = omega arith in
      sym (take-append-drop from ys) ∙ ap (λ x. take from ys ++ blocks f n x (drop from ys)) (sym none) ∙ s.onward

-- The parts of a block, one after another, as an iterator gives them.
use Rattle.std.proofs.Common.{◌≡◌, ℕ, ◌+◌, ◌*◌, ◌<◌, ◌≤◌, List, ◌++◌, length, drop, Some, None, Bor, sym, ap, ◌∙◌, length-append, length-drop, drop-drop, drop_at, add-mul, one-mul, lt_of_mul-lt-mul_right, arith}
use Rattle.std.specs.Slice.Iter.{chunks_exact_steps, chunks_exact_rest, chunks_exact_size}

-- part q of the r parts with len elements each comes next
pub record Ahead {A : Type 0} (r len : ℕ) (block : List A) (q size : ℕ) (rest : List A) : Type 0 where
  pub parted : size ≡ len
  pub left : rest ≡ drop (q * len) block
  pub within : q ≤ r

one_more : (k n : ℕ) → (k + 1) * n ≡ k * n + n
one_more k n = omega (arith, add-mul k 1 n, one-mul n)

module _ {A : Type 0} {r len q : ℕ} {block : List A} (s t : _) (ahead : Ahead r len block q (chunks_exact_size s) (chunks_exact_rest s)) (whole : length block ≡ r * len) (some : 0 < len) where
  pub part_next : (x : Bor (List A)) → chunks_exact_steps s (Some x) t → (length x.now ≡ len) × (drop (q * len) block ≡ x.now ++ chunks_exact_rest t) × (q < r) × Ahead r len block (q + 1) (chunks_exact_size t) (chunks_exact_rest t)
  part_next x went =
      let rest = chunks_exact_rest t in
      let size : length x.now ≡ len = went.1.1 ∙ ahead.parted in
      let cut : drop (q * len) block ≡ x.now ++ rest = sym ahead.left ∙ went.1.0 in
      let more : q * len < r * len = omega (arith, ap length cut, length-drop (q * len) block, length-append x.now rest, size, whole, some) in
      let less : q < r = lt_of_mul-lt-mul_right len more in
      let off : rest ≡ drop len (drop (q * len) block) = sym (ap (drop len) cut ∙ drop_at x.now rest len size) in (
        size,
        cut,
        less,
        record {
          parted = went.0 ∙ ahead.parted;
          left = off ∙ drop-drop len (q * len) block ∙ ap (λ n. drop n block) (sym (one_more q len));
          within = omega arith;
        },
      )

  pub parts_end : chunks_exact_steps s None t → q ≡ r
  parts_end went =
      let none : r * len < (q + 1) * len = omega (arith, one_more q len, went.1.0, ahead.parted, ap length ahead.left, length-drop (q * len) block, whole) in
      let less : r < q + 1 = lt_of_mul-lt-mul_right len none in
      omega (arith, ahead.within)

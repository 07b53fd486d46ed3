-- A buffer that takes lists of one length w, one after the other, from its front.
use Rattle.std.proofs.Common.{◌≡◌, ℕ, ◌+◌, ◌-◌, ◌*◌, ◌<◌, ◌≤◌, List, [], ◌++◌, length, take, drop, sym, ap, ◌∙◌, append_assoc, mul-le-mul_right, zero-add, zero-mul, arith}
use borrow.Rule.Slice.PartMut.{put_mid}
use Rattle.std.specs.List.{range_with_len, flat_map}
use Rattle.std.proofs.lemmas.List.FromFn.{map-range_with_len_more}
use Rattle.std.proofs.lemmas.List.{append-nil, map-id, flat_map_more, take_at, drop_at, drop_all, drop-drop}
use Rattle.stroke.proofs.Rows.{length_rows}

pub row_inside : (i n w : ℕ) → i < n → i * w + w ≤ n * w
row_inside i n w h = omega (arith, mul-le-mul_right w h)

module _ {A : Type 0} (f : ℕ → List A) where
  rows_more : (n : ℕ) → flat_map f (range_with_len 0 (n + 1)) ≡ flat_map f (range_with_len 0 n) ++ f n
  rows_more n =
      let more = simp map-id at (map-range_with_len_more (λ i. i) 0 n n (zero-add n)) in
      ap (flat_map f) more ∙ sym (flat_map_more f [] (range_with_len 0 n) n)

  -- the first i lists stand in front, and behind them the buffer is as it was
  abbrev pub Filled : ℕ → List A → ℕ → List A → Type 0
  Filled w before i now = now ≡ flat_map f (range_with_len 0 i) ++ drop (i * w) before

  module _ (w : ℕ) (before : List A) where
    pub filled_none : Filled w before 0 before
    filled_none = rw (zero-mul w)

    pub filled_more : ((i : ℕ) → length (f i) ≡ w) → (i : ℕ) (out part : List A) → Filled w before i out → part ≡ f i
        → Filled w before (i + 1) (put_mid (i * w) (i * w + w - i * w) out part)
    filled_more each i out part so written =
        let at = i * w in
        let front = flat_map f (range_with_len 0 i) in
        let long : length front ≡ at = length_rows f w each i 0 in
        let width : at + w - at ≡ w = omega arith in
        let next : (i + 1) * w ≡ at + w = omega arith in
        let kept : drop at out ≡ drop at before = ap (drop at) so ∙ drop_at front (drop at before) at long in
        let rest : drop w (drop at out) ≡ drop (at + w) before = ap (drop w) kept ∙ drop-drop w at before in
        let first : take at out ≡ front = ap (take at) so ∙ take_at front (drop at before) at long in
        rw (width, first, written, rest, rows_more i, next) (sym (append_assoc front (f i) (drop (at + w) before)))

    pub filled_all : (n : ℕ) (out : List A) → Filled w before n out → length before ≡ n * w → out ≡ flat_map f (range_with_len 0 n)
    filled_all n out so len = so ∙ rw (drop_all (n * w) before (omega arith)) (append-nil (flat_map f (range_with_len 0 n)))

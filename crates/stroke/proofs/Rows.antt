-- Lists of one length w, one after the other: what stands at i * w + j is what stands at j of list i.
use Rattle.std.proofs.Common.{◌≡◌, ℕ, zero, suc, ◌+◌, ◌-◌, ◌*◌, ◌/◌, ◌%◌, ◌<◌, List, length, get_or, sym, ap, ◌∙◌, zero-add, arith, length-append}
use Rattle.std.specs.List.{range_with_len, flat_map}
use Rattle.std.proofs.lemmas.Nat.{div-add-mod', div_below, mod_below}
use Rattle.std.proofs.lemmas.List.{get_or_append_left, get_or-append_right, ext_get_or}

module _ {A : Type 0} (f : ℕ → List A) (w : ℕ) (each : (i : ℕ) → length (f i) ≡ w) where
  pub length_rows : (n a : ℕ) → length (flat_map f (range_with_len a n)) ≡ n * w
  length_rows zero a = omega arith
  length_rows (suc n) a =
      length-append (f a) (flat_map f (range_with_len (a + 1) n)) ∙ omega (arith, each a, length_rows n (a + 1))

  getD_rows_from : (n a i j : ℕ) (d : A) → i < n → j < w → get_or (flat_map f (range_with_len a n)) (i * w + j) d ≡ get_or (f (a + i)) j d
  getD_rows_from zero a i j d h k = absurd (omega arith)
  getD_rows_from (suc n) a zero j d h k =
      let at : zero * w + j ≡ j = omega arith in
      let row : a + zero ≡ a = omega arith in
      rw (at, row) (get_or_append_left (f a) (flat_map f (range_with_len (a + 1) n)) d j (omega (arith, each a)))
  getD_rows_from (suc n) a (suc i) j d h k =
      let at : suc i * w + j - w ≡ i * w + j = omega arith in
      let row : a + suc i ≡ a + 1 + i = omega arith in
      get_or-append_right (f a) (flat_map f (range_with_len (a + 1) n)) w (suc i * w + j) d (each a) (omega arith) ∙ rw (at, row) (getD_rows_from n (a + 1) i j d (omega arith) k)

  pub get_d_rows : (n i j : ℕ) (d : A) → i < n → j < w → get_or (flat_map f (range_with_len 0 n)) (i * w + j) d ≡ get_or (f i) j d
  get_d_rows n i j d h k = getD_rows_from n 0 i j d h k ∙ ap (λ m. get_or (f m) j d) (zero-add i)

  -- a list of n * w elements with those at those places is the lists in a row
  pub rows_are : (n : ℕ) (xs : List A) (d : A) → 0 < w → length xs ≡ n * w → ((i j : ℕ) → i < n → j < w → get_or xs (i * w + j) d ≡ get_or (f i) j d)
      → xs ≡ flat_map f (range_with_len 0 n)
  rows_are n xs d some len same =
      ext_get_or d xs (flat_map f (range_with_len 0 n)) (len ∙ sym (length_rows n 0))
      (λ k h.
      let i_low : k / w < n = div_below k w n some (omega arith) in
      let j_low : k % w < w = mod_below k w some in
      let both : get_or xs (k / w * w + k % w) d ≡ get_or (flat_map f (range_with_len 0 n)) (k / w * w + k % w) d =
      same (k / w) (k % w) i_low j_low ∙ sym (get_d_rows n (k / w) (k % w) d i_low j_low) in
      rw (div-add-mod' k w) at both)

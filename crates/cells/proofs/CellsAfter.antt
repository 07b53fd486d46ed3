-- The cells that each granted call leaves: the samples moved, and the tones that follow.
use Rattle.std.proofs.Common.{◌≡◌, ℕ, ◌+◌, ◌-◌, ◌*◌, ◌%◌, ◌<◌, ◌≤◌, List, ◌++◌, length, get_or, take, drop, set, sym, ap, ◌∙◌, ⊎_elim, arith}
use lib.Seq.{take-set-lt}
use borrow.Rule.Slice.PartMut.{put_mid}
use Rattle.std.proofs.lemmas.List.{get_or_default, get_or-take, get_or-drop, get_or_append_left, get_or-append_right, drop-set-lt, length-set, length-append, length-drop, length-take-le}
use Rattle.std.proofs.lemmas.List.FromFn.{fill_by_all}
use Rattle.std.proofs.lemmas.Bool.{cases_lt}
use Rattle.arithmetic.specs.Meaning.{Meaning}
use Rattle.spectra.specs.Moves.{shifted}
use Rattle.spectra.proofs.Circle.{mod_below_span, mod_past_span}
use Rattle.cells.specs.Plain.{edit}
use Rattle.cells.specs.Cells.{tones_edited, followed}
use Rattle.cells.proofs.Halves.{lent_tones, tones_put}

-- the samples from h on, and then those before it
pub rotated : {A : Type 0} (d : A) (h : ℕ) (a : List A) → h ≤ length a → drop h a ++ take h a ≡ shifted d h a
unfolding shifted
rotated d h a l =
    let n = length a in
    let long : length (drop h a) ≡ n - h = length-drop h a in
    fill_by_all (λ t. get_or a ((t + h) % n) d) (drop h a ++ take h a) n d
    (simp (length-append, length-drop, length-take-le) (omega arith))
    (λ t inside.
    ⊎_elim
    (λ (before : t + h < n).
    let on : h + t ≡ (t + h) % n = omega (arith, mod_below_span (t + h) n before) in
    get_or_append_left (drop h a) (take h a) d t (omega arith) ∙ get_or-drop h a t d ∙ ap (λ x. get_or a x d) on)
    (λ (round : n ≤ t + h).
    let on : t - (n - h) ≡ (t + h) % n = omega (arith, mod_past_span (t + h) n round (omega arith)) in
    get_or-append_right (drop h a) (take h a) (n - h) t d long (omega arith) ∙ get_or-take h a (t - (n - h)) d (omega arith) ∙ ap (λ x. get_or a x d) on)
    (cases_lt (t + h) n))

module _ {A R : Type 0} (m : Meaning A R) (n : ℕ) (cells : List A) (whole : length cells ≡ 2 * n) where
  pub edited_cells : (i : ℕ) (v d change : A) (ys : List A) → i < n → change ≡ m.difference v (get_or cells i d) → ys ≡ tones_edited m i change (take (2 * n - n) (drop n (set cells i v))) →
      put_mid n (2 * n - n) (set cells i v) ys ≡ followed m n (edit i v) cells
  edited_cells i v d change ys l is made =
      let long : length (set cells i v) ≡ 2 * n = length-set cells i v ∙ whole in
      let was : get_or cells i d ≡ get_or (take n cells) i m.zero =
      get_or_default cells i d m.zero (omega arith) ∙ sym (get_or-take n cells i m.zero l) in
      let tones : ys ≡ tones_edited m i (m.difference v (get_or (take n cells) i m.zero)) (drop n cells) =
      made ∙ ap (tones_edited m i change) (lent_tones n (set cells i v) long ∙ drop-set-lt n cells i v l)
      ∙ ap (λ x. tones_edited m i x (drop n cells)) (is ∙ ap (m.difference v) was) in
      tones_put n (set cells i v) long ys ∙ ap (λ x. x ++ ys) (take-set-lt n cells i v l) ∙ ap (λ x. set (take n cells) i v ++ x) tones

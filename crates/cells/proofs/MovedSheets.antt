-- A granted call leaves a sheet: the tones that follow are those of the moved samples.
use Rattle.std.proofs.Common.{◌≡◌, ◌+◌, ◌-◌, ◌*◌, List, ◌++◌, map, length, get_or, drop, set, Ok, sym, refl, ap, ◌∙◌, arith}
use Rattle.std.specs.List.{range_with_len}
use Rattle.std.proofs.lemmas.List.{take_at, drop_at, take-append-drop, length-append, length-set}
use Rattle.arithmetic.specs.Meaning.{Meaning}
use Rattle.arithmetic.specs.Laws.{Divides}
use Rattle.arithmetic.proofs.Ladder.{ExactLaws}
use Rattle.spectra.specs.Spectra.{spectrum}
use Rattle.spectra.specs.SpectraLaws.{TonesOf}
use Rattle.spectra.specs.Moves.{shifted, laid}
use Rattle.spectra.proofs.Moves.{length_shifted, length_mirrored, length_laid}
use Rattle.spectra.proofs.SpectraByPlace.{as_many_tones}
use Rattle.spectra.proofs.DefiningSums.{spectrum_is_tones}
use Rattle.spectra.proofs.MovedTones.{edited_tones, shifted_tones, mirrored_tones, laid_tones}
use Rattle.cells.specs.Plain.{PlainCall, edit, shift, mirror, lay, tone, plainly_granted, moved}
use Rattle.cells.specs.Cells.{steps, tones_edited, tones_shifted, tones_after}
use Rattle.cells.specs.Holding.{Holds}
use Rattle.cells.proofs.Granting.{numbered_within, whole_length}

module _ {A R : Type 0} (m : Meaning A R) where
  pub length_moved : (c : PlainCall A) (a : List A) → length (moved m c a) ≡ length a
  length_moved (edit i v) a = length-set a i v
  length_moved (shift h) a = length_shifted m.zero h a
  length_moved mirror a = length_mirrored m.zero a
  length_moved (lay b) a = length_laid m a b
  length_moved (tone k) a = refl

  -- samples and tones, one after the other
  pub holds_both : (a y : List A) → TonesOf m a y → Holds m a (a ++ y)
  holds_both a y is = record { samples = take_at a y (length a) refl; sums = rw (drop_at a y (length a) refl) is }

  pub length_held : (a cells : List A) → Holds m a cells → length cells ≡ 2 * length a
  length_held a cells h =
      let many : length (drop (length a) cells) ≡ length a = as_many_tones m a (drop (length a) cells) h.sums in
      ap length (sym (take-append-drop (length a) cells)) ∙ length-append _ _ ∙ ap (λ x. length x + length (drop (length a) cells)) h.samples ∙ omega arith

module _ {A R : Type 0} {m : Meaning A R} (law : ExactLaws m) (a y : List A) (z : Divides (length a) m.span) (is : TonesOf m a y) where
  -- tones that are the defining sums themselves
  by_sums : (b x : List A) → length b ≡ length a → x ≡ spectrum m b → TonesOf m b x
  by_sums b x long sums = rw sums (spectrum_is_tones law b (rw long z))

  pub tones_follow : (c : PlainCall A) → Ok tt ≡ plainly_granted (length a) c → TonesOf m (moved m c a) (tones_after m c a y)
  unfolding tones_edited tones_shifted
  tones_follow (edit i v) granted =
      let change = m.difference v (get_or a i m.zero) in
      by_sums (set a i v) _ (length-set a i v)
      (ap (λ n. map (λ k. m.sum (get_or y k m.zero) (m.turn change (steps m n (i * k)))) (range_with_len 0 n)) (as_many_tones m a y is)
      ∙ edited_tones law a y z is i v (numbered_within (length a) i granted))
  tones_follow (shift h) granted =
      let within = numbered_within (length a) h granted in
      by_sums (shifted m.zero h a) _ (length_shifted m.zero h a)
      (ap (λ n. map (λ k. m.turn (get_or y k m.zero) (steps m n ((n - h) * k))) (range_with_len 0 n)) (as_many_tones m a y is)
      ∙ shifted_tones law a y z is h (omega arith))
  tones_follow mirror granted = mirrored_tones law a y z is
  tones_follow (lay b) granted =
      let many = whole_length (length a) (length b) granted in
      by_sums (laid m a b) _ (length_laid m a b) (laid_tones law a y z is b (spectrum m b) many (spectrum_is_tones law b (rw many z)))
  tones_follow (tone k) granted = is

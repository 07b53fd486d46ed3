-- Each tone that a loop writes is the one that follows from the call.
use Rattle.std.proofs.Common.{◌≡◌, ℕ, ◌+◌, ◌-◌, ◌*◌, ◌/◌, ◌%◌, ◌<◌, List, length, get_or, sym, ap, ◌∙◌, mul_comm, arith}
use Rattle.std.proofs.lemmas.List.{get_or_default, get_or_read}
use Rattle.arithmetic.specs.Meaning.{Meaning}
use Rattle.arithmetic.specs.Series.{series}
use Rattle.arithmetic.proofs.Series.{series_one, series_more}
use Rattle.arithmetic.proofs.Remainders.{mul_remainder}
use Rattle.spectra.proofs.Circle.{exponent}
use Rattle.spectrum.specs.declared.circle.Angle.{Angle}
use Rattle.cells.specs.Cells.{steps, tone_edited, tone_shifted}
use Rattle.cells.proofs.Walks.{Walked}
use Rattle.cells.proofs.Written.{Written}

-- sample t in the defining sum of tone k
abbrev pub sample_turned : {A R : Type 0} → Meaning A R → List A → ℕ → ℕ → A
sample_turned m a k t = m.turn (get_or a t m.zero) (exponent m.span (length a) k t)

-- the sum of what both lists have at a place
abbrev pub place_laid : {A R : Type 0} → Meaning A R → List A → List A → ℕ → A
place_laid m a b t = m.sum (get_or a t m.zero) (get_or b t m.zero)

module _ {A R : Type 0} (m : Meaning A R) where
  -- what a loop reads at the place that it writes next is what stood there at the start
  pub read_next : {f : ℕ → A} {before after : List A} (k : ℕ) (d : A) → Written m.zero f k before after → k < length after → get_or after k d ≡ get_or before k m.zero
  read_next {f} {before} {after} k d so l = get_or_default after k d m.zero l ∙ so.rest k (omega arith)

  steps_walked : (n i k : ℕ) {angle : Angle} → Walked m.span n i k angle → angle.at ≡ steps m n (i * k)
  steps_walked n i k so = so.here ∙ ap (steps m n) (mul_comm k i)

  pub edited_next : {i k e : ℕ} {angle : Angle} {before after : List A} (change d turned x : A) → Walked m.span (length before) i k angle → e ≡ angle.at → Written m.zero (tone_edited m i change before) k before after → k < length after → turned ≡ m.turn change e → x ≡ m.sum (get_or after k d) turned → x ≡ tone_edited m i change before k
  edited_next {i} {k} {before = before} {after} change d turned x walk here so l turns sums =
      let turning = turns ∙ ap (m.turn change) (here ∙ steps_walked (length before) i k walk) in
      sums ∙ ap (λ y. m.sum y turned) (read_next k d so l) ∙ ap (m.sum (get_or before k m.zero)) turning

  pub shifted_next : (h : ℕ) {k e : ℕ} {angle : Angle} {before after : List A} (d x : A) → Walked m.span (length before) ((length before - h) % length before) k angle → e ≡ angle.at → Written m.zero (tone_shifted m h before) k before after → k < length after → x ≡ m.turn (get_or after k d) e → x ≡ tone_shifted m h before k
  shifted_next h {k} {e} {before = before} {after} d x walk is so l turns =
      let n = length before in
      let turning : e ≡ steps m n ((n - h) * k) =
      is ∙ walk.here ∙ ap (λ y. y * (m.span / n)) (mul_remainder k (n - h) n) ∙ ap (steps m n) (mul_comm k (n - h)) in
      turns ∙ ap (λ y. m.turn y e) (read_next k d so l) ∙ ap (m.turn (get_or before k m.zero)) turning

  pub laid_next : (b : List A) {before after : List A} (k : ℕ) (d y x : A) → Written m.zero (place_laid m before b) k before after → k < length after → y ≡ get_or b k m.zero → x ≡ m.sum (get_or after k d) y → x ≡ place_laid m before b k
  laid_next b {before} k d y x so l is sums =
      sums ∙ ap (λ w. m.sum w y) (read_next k d so l) ∙ ap (m.sum (get_or before k m.zero)) is

  -- a defining sum, sample by sample
  next_turned : (a : List A) (k t : ℕ) {e : ℕ} {angle : Angle} (y turned : A) → t < length a → Walked m.span (length a) k t angle → e ≡ angle.at → y ≡ get_or a t y → turned ≡ m.turn y e → turned ≡ sample_turned m a k t
  next_turned a k t {e} y turned l walk here read turns =
      turns ∙ ap (λ z. m.turn z e) (get_or_read a t y l read m.zero) ∙ ap (m.turn (get_or a t m.zero)) (here ∙ walk.here)

  pub summed_one : (a : List A) (k : ℕ) {e : ℕ} {angle : Angle} (y x : A) → 0 < length a → Walked m.span (length a) k 0 angle → e ≡ angle.at → y ≡ get_or a 0 y → x ≡ m.turn y e → x ≡ series m (sample_turned m a k) 1
  summed_one a k y x l walk here read turns = next_turned a k 0 y x l walk here read turns ∙ sym (series_one m (sample_turned m a k))

  pub summed_more : (a : List A) (k t : ℕ) {e : ℕ} {angle : Angle} (y turned sum x : A) → 0 < t → t < length a → Walked m.span (length a) k t angle → e ≡ angle.at → y ≡ get_or a t y → turned ≡ m.turn y e → sum ≡ series m (sample_turned m a k) t → x ≡ m.sum sum turned → x ≡ series m (sample_turned m a k) (t + 1)
  summed_more a k t y turned sum x some l walk here read turns so sums =
      sums ∙ ap (λ z. m.sum z turned) so ∙ ap (m.sum _) (next_turned a k t y turned l walk here read turns) ∙ sym (series_more m (sample_turned m a k) t some)

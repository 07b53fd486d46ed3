-- The inverse restores the samples, and it is the transform of the tones, mirrored and parted.
--
-- In the inverse's sum at t, sample s of the tones' own sums is turned by (s + (N - t)) k N-th parts of a circle, summed
-- over k. That is zero for each s but t, and N copies of sample t for s = t.
use Rattle.std.proofs.Common.{◌≡◌, ℕ, ◌+◌, ◌-◌, ◌*◌, ◌/◌, ◌%◌, ◌<◌, ◌⊎◌, List, map, length, sym, refl, ap, ◌∙◌, ⊎_elim, mod-lt, mod-eq_of_lt, mul_comm, arith}
use mathlib.Core.Path.{◌≡⟨◌⟩◌, ◌∎}
use native.Mathlib.Nat.{add-mod_left, mod_self}
use Rattle.arithmetic.specs.Meaning.{Meaning}
use Rattle.arithmetic.specs.Laws.{Every, Divides}
use Rattle.arithmetic.proofs.Ladder.{ExactLaws, FullLaws}
use Rattle.arithmetic.proofs.Series.{series_same}
use Rattle.arithmetic.proofs.Totals.{total, total_same, total_swap, total_single}
use Rattle.arithmetic.proofs.Remainders.{mul_remainder}
use Rattle.arithmetic.proofs.Turns.{parts, series_turned}
use Rattle.arithmetic.proofs.Vanishing.{around, around_vanishes, part_of_around}
use Rattle.plan.specs.Radices.{size}
use Rattle.spectra.specs.Tones.{tones}
use Rattle.spectra.specs.Spectra.{defining, spectrum, inverse_sum, inverse}
use Rattle.spectra.specs.SpectraLaws.{TonesOf, InverseRestores}
use Rattle.spectra.specs.Moves.{mirrored}
use Rattle.spectra.proofs.ByPlace.{map_by_place}
use Rattle.spectra.proofs.Moves.{length_mirrored, mirrored_at}
use Rattle.spectra.proofs.SpectraByPlace.{sample, as_many_tones, value_of_tone}
use Rattle.spectra.proofs.DefiningSums.{tone_total, turn_of_tone_total, turn_of_tone, all_plans_agree, spectrum_is_tones}

less_or_more : (s t : ℕ) → (s ≡ t → ⊥) → (s < t) ⊎ (t < s)
less_or_more s t other = grind arith

-- t places back from s is a whole circle of n places only for s = t
behind : (s t n : ℕ) → s < t → t < n → Divides n (s + (n - t)) → ⊥
behind s t n less l z = let short : s + (n - t) < n = omega arith in omega (arith, mod-eq_of_lt short)

ahead : (s t n : ℕ) → t < s → s < n → Divides n (s + (n - t)) → ⊥
ahead s t n more h z =
    let past : s + (n - t) ≡ n + (s - t) = omega arith in
    let short : s - t < n = omega arith in
    omega (arith, ap (λ x. x % n) past ∙ add-mod_left n (s - t) ∙ mod-eq_of_lt short)

apart : (s t n : ℕ) → s < n → t < n → (s ≡ t → ⊥) → Divides n (s + (n - t)) → ⊥
apart s t n h l other z = ⊎_elim (λ (less : s < t). behind s t n less l z) (λ (more : t < s). ahead s t n more h z) (less_or_more s t other)

module _ {A R : Type 0} (m : Meaning A R) where
  -- the inverse's sum at t is the defining sum of the tones at (N - t) mod N
  pub inverse_sum_backwards : (x : List A) (t : ℕ) → inverse_sum m x t ≡ defining m x ((length x - t) % length x)
  unfolding inverse_sum defining
  inverse_sum_backwards x t =
      let n = length x in
      let same : (k : ℕ) → ((n - t) * k) % n ≡ (k * ((n - t) % n)) % n = λ k. ap (λ e. e % n) (mul_comm (n - t) k) ∙ sym (mul_remainder k (n - t) n) in
      series_same m _ _ n (λ k _. ap (λ e. m.turn (sample m x k) (e * (m.span / n))) (same k))

  -- so the inverse is the transform y of the tones x, mirrored and parted by N
  pub inverse_by_transform : Every m → (x y : List A) → TonesOf m x y → map (λ w. m.part w (length x)) (mirrored m.zero y) ≡ inverse m x
  unfolding inverse
  inverse_by_transform every x y is =
      let n = length x in
      let many = as_many_tones m x y is in
      map_by_place m.zero (λ w. m.part w n) (λ t. m.part (inverse_sum m x t) n) (mirrored m.zero y) n (length_mirrored m.zero y ∙ many)
      (λ t l.
      let k = (n - t) % n in
      m.part (sample m (mirrored m.zero y) t) n ≡⟨ ap (λ w. m.part w n) (mirrored_at m.zero y n t many l) ⟩
      m.part (sample m y k) n ≡⟨ sym (every.part_of_value (sample m y k) n) ⟩
      m.part (m.value (sample m y k)) n ≡⟨ ap (λ w. m.part w n) (value_of_tone m x y is k (mod-lt (n - t) (omega arith))) ⟩
      m.part (defining m x k) n ≡⟨ ap (λ w. m.part w n) (sym (inverse_sum_backwards x t)) ⟩
      m.part (inverse_sum m x t) n ∎)

-- and that is so under any radices
pub inverse_by_tones : {A R : Type 0} {m : Meaning A R} → ExactLaws m → (rs : List ℕ) (x : List A) → Divides (size rs) m.span → length x ≡ size rs →
    map (λ w. m.part w (size rs)) (mirrored m.zero (tones m rs x)) ≡ inverse m x
inverse_by_tones {m = m} law rs x z long = rw (← long) (inverse_by_transform m law.every x (tones m rs x) (all_plans_agree law rs x z long))

module _ {A R : Type 0} {m : Meaning A R} (law : FullLaws m) where
  module _ (f : ℕ → A) (n t : ℕ) (z : Divides n m.span) (l : t < n) where
    -- n times sample t
    restored_sum : total m (λ k. m.turn (tone_total m n f k) (parts m n ((n - t) * k))) n ≡ m.value (around m n (f t) (t + (n - t)))
    restored_sum =
        let exact = law.exactly in
        let b = n - t in
        let h : ℕ → ℕ → A = λ k s. m.turn (f s) (parts m n ((s + b) * k)) in
        total m (λ k. m.turn (tone_total m n f k) (parts m n (b * k))) n ≡⟨ total_same exact n (λ k _. turn_of_tone_total exact f n k b) ⟩
        total m (λ k. total m (h k) n) n ≡⟨ total_swap exact h n n ⟩
        total m (λ s. around m n (f s) (s + b)) n ≡⟨ total_single exact _ n t l (λ s inside other. around_vanishes law n z (f s) (s + b) (apart s t n inside l other)) ⟩
        m.value (around m n (f t) (t + b)) ∎

    restored : m.part (total m (λ k. m.turn (tone_total m n f k) (parts m n ((n - t) * k))) n) n ≡ m.value (f t)
    restored =
        let g = around m n (f t) (t + (n - t)) in
        let round : t + (n - t) ≡ n = omega arith in
        m.part (total m (λ k. m.turn (tone_total m n f k) (parts m n ((n - t) * k))) n) n ≡⟨ ap (λ x. m.part x n) restored_sum ⟩
        m.part (m.value g) n ≡⟨ law.exactly.every.part_of_value g n ⟩
        m.part g n ≡⟨ part_of_around law n z (f t) (t + (n - t)) (ap (λ x. x % n) round ∙ mod_self n) ⟩
        m.value (f t) ∎

  inverse_sum_total : (a x : List A) → Divides (length a) m.span → TonesOf m a x → (t : ℕ) →
      inverse_sum m x t ≡ total m (λ k. m.turn (tone_total m (length a) (sample m a) k) (parts m (length a) ((length a - t) * k))) (length a)
  unfolding inverse_sum
  inverse_sum_total a x z is t =
      let exact = law.exactly in
      let n = length a in
      rw (as_many_tones m a x is)
      (series_turned exact n z (sample m x) (λ k. (n - t) * k) n ∙ total_same exact n (λ k l. turn_of_tone exact a x z is k (parts m n ((n - t) * k)) l))

  pub inverse_restores : InverseRestores m
  unfolding inverse
  inverse_restores a x z is =
      let n = length a in
      rw (as_many_tones m a x is)
      (sym (map_by_place m.zero m.value (λ t. m.part (inverse_sum m x t) n) a n refl
      (λ t l. sym (ap (λ y. m.part y n) (inverse_sum_total a x z is t) ∙ restored (sample m a) n t z l))))

  pub inverse_of_spectrum : (a : List A) → Divides (length a) m.span → inverse m (spectrum m a) ≡ map m.value a
  inverse_of_spectrum a z = inverse_restores a (spectrum m a) z (spectrum_is_tones law.exactly a z)

  pub inverse_of_tones : (rs : List ℕ) (a : List A) → Divides (size rs) m.span → length a ≡ size rs → inverse m (tones m rs a) ≡ map m.value a
  inverse_of_tones rs a z long = inverse_restores a (tones m rs a) (rw long z) (all_plans_agree law.exactly rs a z long)

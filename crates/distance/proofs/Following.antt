-- An arithmetic that does as whole numbers do while they fit 32 bits gives the tones of whole numbers.
use Rattle.std.proofs.Common.{◌≡◌, ℕ, zero, suc, ◌+◌, ◌*◌, ◌/◌, ◌%◌, ◌<◌, List, [], ◌∷◌, map, get_or, sym, refl, ap, ◌∙◌, arith}
use Rattle.std.specs.List.{range_with_len, flat_map}
use Rattle.std.proofs.lemmas.Simd.{map-map}
use Rattle.arithmetic.specs.Meaning.{Meaning}
use Rattle.arithmetic.specs.Series.{series}
use Rattle.quarter.specs.Entries.{circle}
use Rattle.fixed.specs.declared.Fixed.{Fixed}
use Rattle.fixed.specs.Pairs.{origin}
use Rattle.plan.specs.Radices.{size}
use Rattle.plan.specs.Dealing.{every}
use Rattle.spectra.specs.Tones.{term, tone, combine, tones}
use Rattle.distance.specs.Checked.{whole_sum, whole_turn}
use Rattle.distance.proofs.Lists.{get_or_map_of, joined_map}
use Rattle.distance.proofs.Whole.{whole, Fits}
use Rattle.distance.proofs.Exactly.{sample, Modest, part_modest}
use Rattle.distance.proofs.Plans.{Round, round_rest, block_of, Stays, tones_stay}

-- m has the pair a as the element into a, and its sums and turns as whole numbers have them, where they fit
pub record Follows {A R : Type 0} (m : Meaning A R) (into : Fixed → A) : Type 0 where
  pub zero_is : m.zero ≡ into origin
  pub span_is : m.span ≡ circle
  pub sum_is : (a b : Fixed) → Fits (whole_sum a b) → m.sum (into a) (into b) ≡ into (whole_sum a b)
  pub turn_is : (a : Fixed) (e : ℕ) → Fits (whole_turn a e) → m.turn (into a) e ≡ into (whole_turn a e)

module _ {A R : Type 0} (m : Meaning A R) (into : Fixed → A) (follows : Follows m into) where
  at_into : (a : List Fixed) (t : ℕ) → get_or (map into a) t m.zero ≡ into (sample a t)
  at_into a t = ap (get_or (map into a) t) follows.zero_is ∙ get_or_map_of into origin a t

  every_into : (r len : ℕ) (a : List Fixed) (q : ℕ) → every m.zero r len (map into a) q ≡ map into (every origin r len a q)
  every_into r len a q =
      (λ i. map (λ j. at_into a (q + r * j) i) (range_with_len 0 len)) ∙ sym (map-map into (λ j. sample a (q + r * j)) (range_with_len 0 len))

  -- a sum of terms, each of which and each first few of which fit
  series_into : (f : ℕ → A) (g : ℕ → Fixed) (n : ℕ) → ((q : ℕ) → q < n → f q ≡ into (g q)) → ((i : ℕ) → i < n → Fits (series whole g (suc i))) → series m f n ≡ into (series whole g n)
  unfolding series
  series_into f g zero terms sums = follows.zero_is
  series_into f g (suc zero) terms sums = terms 0 (omega arith)
  series_into f g (suc (suc n)) terms sums =
      let before = series_into f g (suc n) (λ q l. terms q (omega arith)) (λ i l. sums i (omega arith)) in
      (λ i. m.sum (before i) (terms (suc n) (omega arith) i))
      ∙ follows.sum_is (series whole g (suc n)) (g (suc n)) (sums (suc n) (omega arith))

  term_into : (r len : ℕ) (block : List Fixed) (k q : ℕ) → Fits (term whole r len block k q) → term m r len (map into block) k q ≡ into (term whole r len block k q)
  term_into r len block k q fits =
      (λ i. m.turn (at_into block (q * len + k % len) i) (((q * k) % (r * len)) * (follows.span_is i / (r * len))))
      ∙ follows.turn_is (sample block (q * len + k % len)) (((q * k) % (r * len)) * (circle / (r * len))) fits

  tone_into : (r len : ℕ) (block : List Fixed) (k : ℕ) → Stays r len block k → tone m r len (map into block) k ≡ into (tone whole r len block k)
  unfolding tone
  tone_into r len block k stays =
      series_into (term m r len (map into block) k) (term whole r len block k) r (λ q l. term_into r len block k q (stays.terms q l)) stays.sums

  combine_into : (r len : ℕ) (block : List Fixed) → ((k : ℕ) → Stays r len block k) → combine m r len (map into block) ≡ map into (combine whole r len block)
  unfolding combine
  combine_into r len block stays =
      (λ i. map (λ k. tone_into r len block k (stays k) i) (range_with_len 0 (r * len))) ∙ sym (map-map into (tone whole r len block) (range_with_len 0 (r * len)))

  pub tones_into : (rs : List ℕ) (u : ℕ) → Round rs u → (a : List Fixed) → ((t : ℕ) → Modest (sample a t)) → tones m rs (map into a) ≡ map into (tones whole rs a)
  unfolding tones
  tones_into [] u round a modest = refl
  tones_into (r ∷ rs) u round a modest =
      let part : ℕ → List Fixed = every origin r (size rs) a in
      let parts : (q : ℕ) → tones m rs (every m.zero r (size rs) (map into a) q) ≡ map into (tones whole rs (part q)) = λ q.
      ap (tones m rs) (every_into r (size rs) a q) ∙ tones_into rs (r * u) (round_rest r rs u round) (part q) (part_modest r (size rs) a q modest) in
      ap (combine m r (size rs)) ((λ i. flat_map (λ q. parts q i) (range_with_len 0 r)) ∙ joined_map into (λ q. tones whole rs (part q)) (range_with_len 0 r))
      ∙ combine_into r (size rs) (block_of r rs a) (tones_stay r rs u round a modest)

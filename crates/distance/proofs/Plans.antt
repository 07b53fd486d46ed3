-- Every plan: the tones in whole numbers are near what they should be, and nothing on the way leaves 32 bits. By induction over the radices.
use Rattle.std.proofs.Common.{◌≡◌, ℕ, suc, ◌+◌, ◌*◌, ◌/◌, ◌%◌, ◌<◌, ◌≤◌, List, [], ◌∷◌, length, sym, ap, ◌∙◌, subst, mod-lt, zero-add, add-one, arith}
use Rattle.std.specs.List.{range_with_len, flat_map}
use Rattle.std.proofs.lemmas.List.FromFn.{get_or-map-range_with_len}
use Rattle.algebra.proofs.Integers.{linear}
use Rattle.arithmetic.specs.Series.{series}
use Rattle.quarter.specs.Entries.{circle, entry}
use Rattle.fixed.specs.declared.Fixed.{Fixed}
use Rattle.fixed.specs.Pairs.{origin}
use Rattle.plan.specs.Radices.{size, most_radices}
use Rattle.plan.specs.Dealing.{every}
use Rattle.plan.proofs.Deals.{joined_at, length_every}
use Rattle.plan.proofs.Sizes.{left_positive}
use Rattle.spectra.specs.Tones.{term, tone, combine, tones}
use Rattle.spectra.proofs.Recursion.{length_tones}
use Rattle.distance.specs.Sums.{total}
use Rattle.distance.proofs.Steps.{steps_positive, steps_at_most, no_steps}
use Rattle.distance.proofs.Turns.{along}
use Rattle.distance.proofs.Whole.{whole, Fits}
use Rattle.distance.proofs.Stages.{Tone, stage_tone, part_fits, sum_fits}
use Rattle.distance.proofs.Exactly.{sample, exactly, part_exactly, part_turn, parts_together, Modest, part_modest, modest_along}

-- the radices of a plan, with the step u by which as many samples go round the circle
pub record Round (rs : List ℕ) (u : ℕ) : Type 0 where
  pub round : size rs * u ≡ circle
  pub few : length rs ≤ most_radices

pub round_rest : (r : ℕ) (rs : List ℕ) (u : ℕ) → Round (r ∷ rs) u → Round rs (r * u)
round_rest r rs u h = let all = h.round in let many = h.few in record { round = omega arith; few = omega arith }

-- the tones of the r parts of a block, one after the other
abbrev pub block_of : ℕ → List ℕ → List Fixed → List Fixed
block_of r rs a = flat_map (λ q. tones whole rs (every origin r (size rs) a q)) (range_with_len 0 r)

block_at : (r : ℕ) (rs : List ℕ) (a : List Fixed) (q j : ℕ) → q < r → j < size rs → sample (block_of r rs a) (q * size rs + j) ≡ sample (tones whole rs (every origin r (size rs) a q)) j
block_at r rs a q j l h =
    let part : ℕ → List Fixed = every origin r (size rs) a in
    joined_at (λ n. tones whole rs (part n)) (size rs) (λ n. length_tones whole rs (part n) (length_every origin r (size rs) a n)) origin r 0 q j l h
    ∙ ap (λ n. sample (tones whole rs (part n)) j) (zero-add q)

-- the claim of the induction
abbrev Near : List ℕ → Type 0
Near rs = (u : ℕ) → Round rs u → (a : List Fixed) → ((t : ℕ) → Modest (sample a t)) → (k : ℕ) → k < size rs → Tone (length rs) (size rs) (sample (tones whole rs a) k) (exactly a (size rs) u k)

-- no term of tone k of a block, and no sum of the first of them, leaves 32 bits
pub record Stays (r len : ℕ) (block : List Fixed) (k : ℕ) : Type 0 where
  pub terms : (q : ℕ) → q < r → Fits (term whole r len block k q)
  pub sums : (n : ℕ) → n < r → Fits (series whole (term whole r len block k) (suc n))

-- ---- one radix more

module _ (r : ℕ) (rs : List ℕ) (u : ℕ) (round : Round (r ∷ rs) u) (rest : Near rs) (a : List Fixed) (modest : (t : ℕ) → Modest (sample a t)) (k : ℕ) where
  -- part q as tone k reads it
  part : ℕ → Fixed
  part q = sample (block_of r rs a) (q * size rs + k % size rs)

  some : 0 < size rs
  some = steps_positive (size rs) (r * u) (round_rest r rs u round).round

  few : length rs ≤ most_radices
  few = (round_rest r rs u round).few

  starts : part_turn r (size rs) k 0 ≡ 0
  starts = no_steps k (r * size rs) (circle / (r * size rs))

  parts_near : (q : ℕ) → q < r → Tone (length rs) (size rs) (part q) (part_exactly r (size rs) u a k q)
  unfolding part
  parts_near q l =
      let low : k % size rs < size rs = mod-lt k some in
      subst (λ (b : Fixed). Tone (length rs) (size rs) b (part_exactly r (size rs) u a k q)) (sym (block_at r rs a q (k % size rs) l low))
      (rest (r * u) (round_rest r rs u round) (every origin r (size rs) a q) (part_modest r (size rs) a q modest) (k % size rs) low)

  tone_near : Tone (length rs + 1) (r * size rs) (tone whole r (size rs) (block_of r rs a) k) (exactly a (r * size rs) u k)
  unfolding tone part
  tone_near =
      let parted = left_positive r (size rs) (steps_positive (r * size rs) u round.round) in
      subst (Tone (length rs + 1) (r * size rs) (tone whole r (size rs) (block_of r rs a) k)) (λ i e. parts_together r (size rs) u round.round a k e i)
      (stage_tone (length rs) (size rs) r part (part_exactly r (size rs) u a k) (part_turn r (size rs) k) few some starts parts_near parted)

  tone_stays : Stays r (size rs) (block_of r rs a) k
  unfolding part
  tone_stays =
      let short = steps_at_most (r * size rs) u round.round in
      record {
        terms = part_fits (length rs) (size rs) r part (part_exactly r (size rs) u a k) (part_turn r (size rs) k) few some starts parts_near short;
        sums = sum_fits (length rs) (size rs) r part (part_exactly r (size rs) u a k) (part_turn r (size rs) k) few some starts parts_near short;
      }

-- ---- all of them

-- under the empty plan the tone is the sample
one_sample : (a : List Fixed) (u k : ℕ) → Modest (sample a 0) → Tone 0 1 (sample a 0) (exactly a 1 u k)
unfolding total
one_sample a u k modest =
    record {
      near = λ e. let here : e + (0 * k) * u ≡ e = omega arith in let same = ap (λ d. along (entry d) (sample a 0)) here in omega (arith, linear);
      small = λ e. let size = modest_along (sample a 0) (e + (0 * k) * u) modest in omega (arith, linear);
    }

pub tones_near : (rs : List ℕ) → Near rs
unfolding tones combine
tones_near [] u round a modest k h =
    let none : k ≡ 0 = omega arith in
    subst (λ (x : ℕ). Tone 0 1 (sample a x) (exactly a 1 u k)) (sym none) (one_sample a u k (modest 0))
tones_near (r ∷ rs) u round a modest k h =
    let at = get_or-map-range_with_len (tone whole r (size rs) (block_of r rs a)) 0 (r * size rs) k k origin h (zero-add k) in
    subst (λ (x : Fixed × ℕ). Tone x.1 (r * size rs) x.0 (exactly a (r * size rs) u k)) (λ i. (sym at i, add-one (length rs) i))
    (tone_near r rs u round (tones_near rs) a modest k)

pub tones_stay : (r : ℕ) (rs : List ℕ) (u : ℕ) → Round (r ∷ rs) u → (a : List Fixed) → ((t : ℕ) → Modest (sample a t)) → (k : ℕ) → Stays r (size rs) (block_of r rs a) k
tones_stay r rs u round = tone_stays r rs u round (tones_near rs)

-- The fixed tones are near the sums before rounding.
--
-- A turn by f, seen along the direction e, shows nearly what stood along the direction e + f (`Turns`). So the error is
-- followed along all directions at once (`Near`), where turns move it and sums add it, and no square or root is needed. From
-- stage to stage it grows as `Errors` says (`Stages`, `Plans`). Pairs that are near stay small, so nothing on the way leaves 32
-- bits and the fixed arithmetic does as whole numbers do (`Following`). In the end the direction 0 shows the first part of a
-- tone, and the direction a quarter further its second (`Entered`).
use Rattle.std.proofs.Common.{◌≡◌, ℕ, ◌*◌, ◌/◌, ◌<◌, ◌≤◌, List, map, length, ℤ, pos, ◌-ℤ◌, ◌*ℤ◌, nat_abs, Some, sym, refl, ap, ◌∙◌, subst, arith}
use native.Mathlib.Nat.{div-add-mod}
use Rattle.std.specs.List.{AllByRecursion}
use Rattle.std.proofs.lemmas.List.{map-id}
use Rattle.algebra.proofs.Integers.{linear}
use Rattle.arithmetic.specs.Laws.{Divides}
use Rattle.quarter.specs.Entries.{S, circle, quarter, entry}
use Rattle.fixed.specs.declared.Fixed.{Fixed}
use Rattle.fixed.specs.Pairs.{fixed, units, entered}
use Rattle.plan.specs.Radices.{size, Plan}
use Rattle.stroke.specs.Contents.{Near as WithinLimits}
use Rattle.spectra.specs.Tones.{tones}
use Rattle.distance.specs.Sums.{sum_x, sum_y}
use Rattle.distance.specs.Checked.{checked}
use Rattle.distance.specs.Distance.{fixed_tone, Within, NearSums, TonesAreNearSums}
use Rattle.distance.proofs.Steps.{steps_positive}
use Rattle.distance.proofs.Turns.{along}
use Rattle.distance.proofs.Near.{along_x, along_y}
use Rattle.distance.proofs.Whole.{whole}
use Rattle.distance.proofs.Errors.{error_small}
use Rattle.distance.proofs.Stages.{Tone}
use Rattle.distance.proofs.Exactly.{sample, exactly, Modest}
use Rattle.distance.proofs.Plans.{Round, tones_near}
use Rattle.distance.proofs.Following.{tones_into}
use Rattle.distance.proofs.Unwrapped.{fixed_follows, checked_follows}
use Rattle.distance.proofs.Entered.{entered_modest, kept_entered, exactly_x, exactly_y}

module _ (rs : List ℕ) (path : List (ℤ × ℤ)) (plan : Plan rs) (long : length path ≡ size rs) (divides : Divides (size rs) circle) (limits : AllByRecursion WithinLimits path) where
  u : ℕ
  u = circle / size rs

  round : Round rs u
  unfolding u
  round = record { round = (let whole = div-add-mod circle (size rs) in omega arith); few = plan.few }

  path_round : length path * u ≡ circle
  path_round = ap (λ n. n * u) long ∙ round.round

  modest : (t : ℕ) → Modest (sample (entered path) t)
  modest = entered_modest path limits

  -- nothing is brought back into range
  fixed_whole : tones fixed rs (entered path) ≡ tones whole rs (entered path)
  fixed_whole =
      ap (tones fixed rs) (sym (map-id (entered path)))
      ∙ tones_into fixed (λ a. a) fixed_follows rs u round (entered path) modest
      ∙ map-id (tones whole rs (entered path))

  -- so each tone is near along every direction
  tone_near : (k : ℕ) → k < size rs → Tone (length rs) (size rs) (fixed_tone rs path k) (exactly (entered path) (length path) u k)
  tone_near k h =
      subst (λ (x : List Fixed × ℕ). Tone (length rs) (size rs) (sample x.0 k) (exactly (entered path) x.1 u k)) (λ i. (sym fixed_whole i, sym long i))
      (tones_near rs u round (entered path) modest k h)

  -- and along those that show its parts
  within : (e k : ℕ) (v w : ℤ) → k < size rs → along (entry e) (fixed_tone rs path k) ≡ pos S *ℤ v → exactly (entered path) (length path) u k e ≡ units *ℤ w → Within (size rs) v w
  within e k v w h shown is =
      let near = (tone_near k h).near e in
      let small = error_small (length rs) (size rs) plan.few (steps_positive (size rs) u round.round) in
      closer _ (pos S *ℤ v) _ (units *ℤ w) shown is near (omega arith)
    where
      closer : (y v z w : ℤ) {m n : ℕ} → y ≡ v → z ≡ w → nat_abs (y -ℤ z) ≤ m → m ≤ n → nat_abs (v -ℤ w) ≤ n
      closer y v z w p q near small = omega (arith, linear)

  near_sums : NearSums rs path
  near_sums =
      record {
        x = λ k h. within 0 k (fixed_tone rs path k).x (sum_x path k) h (along_x (fixed_tone rs path k)) (exactly_x path u k path_round);
        y = λ k h. within quarter k (fixed_tone rs path k).y (sum_y path k) h (along_y (fixed_tone rs path k)) (exactly_y path u k path_round);
        in_range =
            ap (tones checked rs) (kept_entered path limits)
            ∙ tones_into checked Some checked_follows rs u round (entered path) modest
            ∙ ap (map Some) (sym fixed_whole);
        turns_made = refl;
      }

pub tones_are_near_sums : TonesAreNearSums
tones_are_near_sums = near_sums

-- One stage: the error of the turned parts, and of the sum of the first of them.
use Rattle.std.proofs.Common.{◌≡◌, ℕ, zero, suc, ◌+◌, ◌*◌, ◌<◌, ◌≤◌, ℤ, ◌-ℤ◌, nat_abs, sym, ap, ◌∙◌, subst, arith}
use Rattle.std.proofs.lemmas.Nat.{mul-le}
use Rattle.algebra.proofs.Integers.{linear}
use Rattle.arithmetic.specs.Series.{series}
use Rattle.quarter.specs.Entries.{circle, entry}
use Rattle.fixed.specs.declared.Fixed.{Fixed}
use Rattle.plan.specs.Radices.{most_radices}
use Rattle.distance.specs.Sums.{total}
use Rattle.distance.specs.Checked.{whole_turn}
use Rattle.distance.proofs.Totals.{total_size}
use Rattle.distance.proofs.Turns.{along, reach}
use Rattle.distance.proofs.Near.{Near, near_sum, near_turn, whole_turn_by_zero, near_x, near_y}
use Rattle.distance.proofs.Whole.{whole, Fits}
use Rattle.distance.proofs.Errors.{most, farthest, turn_error, error, error_small, turn_error_enough, sum_in_range, parts_error}

-- a stands for a tone of len samples after some stages, where g says what it should be along each direction
pub record Tone (stages len : ℕ) (a : Fixed) (g : ℕ → ℤ) : Type 0 where
  pub near : Near a g (error stages len)
  pub small : (e : ℕ) → nat_abs (g e) ≤ len * farthest

tone_reach : (stages len : ℕ) (a : Fixed) (g : ℕ → ℤ) → stages ≤ most_radices → 0 < len → Tone stages len a g → reach a ≤ len * (4 * most + 4)
tone_reach stages len a g few some tone =
    let x = near_x a g (error stages len) (len * farthest) tone.near tone.small in
    let y = near_y a g (error stages len) (len * farthest) tone.near tone.small in
    let small = error_small stages len few some in
    omega arith

-- ---- r parts v q, each turned by f q, where g q says what part q should be

abbrev pub turned_parts : (ℕ → Fixed) → (ℕ → ℕ) → ℕ → Fixed
turned_parts v f q = whole_turn (v q) (f q)

-- what the first n of them should be together
abbrev pub together : (ℕ → ℕ → ℤ) → (ℕ → ℕ) → ℕ → ℕ → ℤ
together g f n e = total (λ q. g q (e + f q)) n

-- every part is a tone of len samples; the first is not turned
module _ (stages len r : ℕ) (v : ℕ → Fixed) (g : ℕ → ℕ → ℤ) (f : ℕ → ℕ)
    (few : stages ≤ most_radices) (some : 0 < len) (starts : f 0 ≡ 0) (parts : (q : ℕ) → q < r → Tone stages len (v q) (g q)) where
  part_near : (q : ℕ) → q < r → Near (turned_parts v f q) (λ e. g q (e + f q)) (error stages len + turn_error len)
  part_near q l =
      let enough = turn_error_enough len (reach (v q)) (tone_reach stages len (v q) (g q) few some (parts q l)) in
      near_turn (v q) (g q) (error stages len) (turn_error len) (f q) (parts q l).near enough

  first_near : 0 < r → Near (turned_parts v f 0) (λ e. g 0 (e + f 0)) (error stages len)
  first_near l e =
      let itself : turned_parts v f 0 ≡ v 0 = ap (whole_turn (v 0)) starts ∙ whole_turn_by_zero (v 0) in
      let here : e + f 0 ≡ e = omega arith in
      subst (λ (p : Fixed × ℕ). nat_abs (along (entry e) p.0 -ℤ g 0 p.1) ≤ error stages len) (λ i. (sym itself i, sym here i)) ((parts 0 l).near e)

  sum_near : (n : ℕ) → n < r → Near (series whole (turned_parts v f) (suc n)) (together g f (suc n)) (suc n * error stages len + n * turn_error len)
  unfolding total series
  sum_near zero l e = let first = first_near l e in omega (arith, linear)
  sum_near (suc n) l e =
      let more = near_sum
      (series whole (turned_parts v f) (suc n)) (turned_parts v f (suc n)) (together g f (suc n)) (λ d. g (suc n) (d + f (suc n)))
      (suc n * error stages len + n * turn_error len) (error stages len + turn_error len)
      (sum_near n (omega arith)) (part_near (suc n) l) e in
      omega arith

  together_small : (n : ℕ) → n ≤ r → (e : ℕ) → nat_abs (together g f n e) ≤ n * (len * farthest)
  together_small n l e = total_size (λ q. g q (e + f q)) (len * farthest) n (λ q h. (parts q (omega arith)).small (e + f q))

  -- what stands for n parts fits 32 bits
  near_fits : (n : ℕ) → n ≤ r → r * len ≤ circle → (a : Fixed) (h : ℕ → ℤ) → Near a h (n * (error stages len + turn_error len)) → ((e : ℕ) → nat_abs (h e) ≤ n * (len * farthest)) → Fits a
  near_fits n l short a h near small =
      let no_more : n * len ≤ r * len = mul-le n len r len l (omega arith) in
      record {
        x = sum_in_range stages len n a.x few some (omega arith) (near_x a h _ _ near small);
        y = sum_in_range stages len n a.y few some (omega arith) (near_y a h _ _ near small);
      }

  pub part_fits : r * len ≤ circle → (q : ℕ) → q < r → Fits (turned_parts v f q)
  part_fits short q l =
      near_fits 1 (omega arith) short (turned_parts v f q) (λ e. g q (e + f q))
      (λ e. let near = part_near q l e in omega arith) (λ e. let small = (parts q l).small (e + f q) in omega arith)

  pub sum_fits : r * len ≤ circle → (n : ℕ) → n < r → Fits (series whole (turned_parts v f) (suc n))
  sum_fits short n l =
      near_fits (suc n) l short (series whole (turned_parts v f) (suc n)) (together g f (suc n))
      (λ e. let near = sum_near n l e in omega arith) (together_small (suc n) l)

-- together they are a tone of all their samples
pub stage_tone : (stages len r : ℕ) (v : ℕ → Fixed) (g : ℕ → ℕ → ℤ) (f : ℕ → ℕ) → stages ≤ most_radices → 0 < len → f 0 ≡ 0 → ((q : ℕ) → q < r → Tone stages len (v q) (g q)) → 0 < r → Tone (stages + 1) (r * len) (series whole (turned_parts v f) r) (together g f r)
stage_tone stages len zero v g f few some starts parts h = absurd (omega arith)
stage_tone stages len (suc n) v g f few some starts parts h =
    let errors = parts_error stages len n some in
    record {
      near = λ e. let sum = sum_near stages len (suc n) v g f few some starts parts n (omega arith) e in omega arith;
      small = λ e. let sum = together_small stages len (suc n) v g f few some starts parts (suc n) (omega arith) e in omega arith;
    }

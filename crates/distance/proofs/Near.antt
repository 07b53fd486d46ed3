-- A pair near what it should be, seen along every direction at once; and how far sums and turns lead away from there.
use Rattle.std.proofs.Common.{◌≡◌, ℕ, ◌+◌, ◌*◌, ◌≤◌, ℤ, pos, ◌+ℤ◌, ◌-ℤ◌, ◌*ℤ◌, nat_abs, ap, ◌∙◌, arith}
use borrow.Author.Differences.{product_is}
use Rattle.std.proofs.lemmas.Int.{ints}
use Rattle.algebra.proofs.Integers.{linear, add_mul}
use Rattle.algebra.proofs.Sizes.{nat_abs_mul}
use Rattle.quarter.specs.Entries.{S, quarter, entry}
use Rattle.quarter.specs.Table.{quarter_table}
use Rattle.fixed.specs.declared.Fixed.{Fixed}
use Rattle.fixed.specs.Pairs.{pair}
use Rattle.fixed.proofs.Rounding.{rounds_to_nearest}
use Rattle.fixed.proofs.Turning.{rounded_whole}
use Rattle.distance.specs.Checked.{whole_sum, whole_turn}
use Rattle.distance.proofs.Quarters.{entry_short}
use Rattle.distance.proofs.Defects.{D, products_close}
use Rattle.distance.proofs.Turns.{along, reach, Turned, turned_along}

-- along the direction e the pair is b away from g e, at most
abbrev pub Near : Fixed → (ℕ → ℤ) → ℕ → Type 0
Near a g b = (e : ℕ) → nat_abs (along (entry e) a -ℤ g e) ≤ b

along_sum : (d : ℤ × ℤ) (a b : Fixed) → along d (whole_sum a b) ≡ along d a +ℤ along d b
along_sum d a b = let x = add_mul a.x b.x d.0 in let y = add_mul a.y b.y d.1 in omega (arith, linear)

pub near_sum : (a b : Fixed) (f g : ℕ → ℤ) (m n : ℕ) → Near a f m → Near b g n → Near (whole_sum a b) (λ e. f e +ℤ g e) (m + n)
near_sum a b f g m n p q e =
    let split = along_sum (entry e) a b in
    let left = p e in
    let right = q e in
    omega (arith, linear)

-- an error of n is enough for the turn
pub near_turn : (a : Fixed) (g : ℕ → ℤ) (m n f : ℕ) → Near a g m → reach a * D + S * S ≤ S * n → Near (whole_turn a f) (λ e. g (e + f)) (m + n)
near_turn a g m n f p enough e =
    let turned : Turned (entry f) a (whole_turn a f) = record { first = rounds_to_nearest _; second = rounds_to_nearest _ } in
    let moved = turned_along a (whole_turn a f) (entry e) (entry f) (entry (e + f)) turned (products_close e f) (entry_short e) in
    let before = p (e + f) in
    apart (along (entry e) (whole_turn a f)) (along (entry (e + f)) a) (g (e + f)) m n (omega arith) before
  where
    apart : (x y z : ℤ) (m n : ℕ) → nat_abs (x -ℤ y) ≤ n → nat_abs (y -ℤ z) ≤ m → nat_abs (x -ℤ z) ≤ m + n
    apart x y z m n p q = omega (arith, linear)

-- a turn by 0 is exact
pub whole_turn_by_zero : (a : Fixed) → whole_turn a 0 ≡ a
unfolding quarter_table
whole_turn_by_zero a =
    let x = rounded_whole (a.x *ℤ pos S +ℤ a.y *ℤ pos 0) a.x (omega (arith, ints, product_is)) in
    let y = rounded_whole (a.y *ℤ pos S -ℤ a.x *ℤ pos 0) a.y (omega (arith, ints, product_is)) in
    λ i. pair (x i) (y i)

-- along the directions 0 and a quarter stand the two parts
pub along_x : (a : Fixed) → along (entry 0) a ≡ pos S *ℤ a.x
unfolding quarter_table
along_x a = omega (arith, ints, product_is)

pub along_y : (a : Fixed) → along (entry quarter) a ≡ pos S *ℤ a.y
unfolding quarter_table
along_y a = omega (arith, ints, product_is)

-- so a pair near what is small is small
part_size : (z x g : ℤ) (b h : ℕ) → z ≡ pos S *ℤ x → nat_abs (z -ℤ g) ≤ b → nat_abs g ≤ h → S * nat_abs x ≤ h + b
part_size z x g b h is near small = let size = ap nat_abs is ∙ nat_abs_mul (pos S) x in omega (arith, linear)

pub near_x : (a : Fixed) (g : ℕ → ℤ) (b h : ℕ) → Near a g b → ((e : ℕ) → nat_abs (g e) ≤ h) → S * nat_abs a.x ≤ h + b
near_x a g b h near small = part_size (along (entry 0) a) a.x (g 0) b h (along_x a) (near 0) (small 0)

pub near_y : (a : Fixed) (g : ℕ → ℤ) (b h : ℕ) → Near a g b → ((e : ℕ) → nat_abs (g e) ≤ h) → S * nat_abs a.y ≤ h + b
near_y a g b h near small = part_size (along (entry quarter) a) a.y (g quarter) b h (along_y a) (near quarter) (small quarter)

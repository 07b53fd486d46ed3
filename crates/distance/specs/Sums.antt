-- What the two parts of a tone are before any rounding, in counts times S. Assumes nothing.
--
-- path       the samples of a stroke: a list of pairs (x, y) of counts
-- direction  a pair (c, s) of the table, of length S
use Rattle.std.specs.Prelude.{ℕ, zero, suc, ◌*◌, ◌/◌, ◌%◌, List, length, ℤ, pos, ◌+ℤ◌, ◌-ℤ◌, ◌*ℤ◌, slice_index_or}
use Rattle.quarter.specs.Entries.{circle, entry}

-- f 0 + f 1 + .. + f (n - 1)
unfoldable pub total : (ℕ → ℤ) → ℕ → ℤ
total f zero = pos 0
total f (suc n) = total f n +ℤ f n

-- sample t of a path
abbrev pub point : List (ℤ × ℤ) → ℕ → ℤ × ℤ
point path t = slice_index_or path t (pos 0, pos 0)

-- the direction of sample t in tone k, of n samples
abbrev pub direction : ℕ → ℕ → ℕ → ℤ × ℤ
direction n k t = entry (((t * k) % n) * (circle / n))

-- (x, y) turned by (c, s) is (x c + y s, y c − x s)
abbrev pub turned_x : ℤ × ℤ → ℤ × ℤ → ℤ
turned_x p d = p.0 *ℤ d.0 +ℤ p.1 *ℤ d.1

abbrev pub turned_y : ℤ × ℤ → ℤ × ℤ → ℤ
turned_y p d = p.1 *ℤ d.0 -ℤ p.0 *ℤ d.1

-- tone k of a path, by its two parts
abbrev pub sum_x : List (ℤ × ℤ) → ℕ → ℤ
sum_x path k = total (λ t. turned_x (point path t) (direction (length path) k t)) (length path)

abbrev pub sum_y : List (ℤ × ℤ) → ℕ → ℤ
sum_y path k = total (λ t. turned_y (point path t) (direction (length path) k t)) (length path)

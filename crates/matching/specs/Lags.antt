-- Lagged sums over the whole numbers, and the least lag of the largest. Assumes nothing.
--
-- lag      how far one stroke is moved against the other: sample t meets sample (t + lag) mod N
-- match    the pair R of a lag: the sum over t of conj(a_t) times b at (t + lag) mod N
use Rattle.std.specs.Prelude.{ℕ, zero, suc, ◌+◌, ◌*◌, ◌%◌, ◌<◌, cond, List, map, length, ℤ, pos, ◌+ℤ◌, ◌-ℤ◌, ◌*ℤ◌, neg_ℤ, ◌≤ℤ◌, ◌<ℤ◌, int_lt, slice_index, slice_index_or}
use Rattle.std.specs.List.{range_with_len}

-- the sum of f 0, f 1, .. f (n - 1), by a sum and its zero
unfoldable pub total : {A : Type 0} → (A → A → A) → A → (ℕ → A) → ℕ → A
total plus none f zero = none
total plus none f (suc n) = plus (total plus none f n) (f n)

-- a pair x, y as the complex number x + iy
abbrev pub plus : ℤ × ℤ → ℤ × ℤ → ℤ × ℤ
plus a b = (a.0 +ℤ b.0, a.1 +ℤ b.1)

abbrev pub times : ℤ × ℤ → ℤ × ℤ → ℤ × ℤ
times a b = (a.0 *ℤ b.0 -ℤ a.1 *ℤ b.1, a.0 *ℤ b.1 +ℤ a.1 *ℤ b.0)

abbrev pub conj : ℤ × ℤ → ℤ × ℤ
conj a = (a.0, neg_ℤ a.1)

abbrev pub origin : ℤ × ℤ
origin = (pos 0, pos 0)

-- what sample t gives to the match of a lag
abbrev pub meeting : List (ℤ × ℤ) → List (ℤ × ℤ) → ℕ → ℕ → ℤ × ℤ
meeting a b lag t = times (conj (slice_index_or a t origin)) (slice_index_or b ((t + lag) % length a) origin)

unfoldable pub match_at : List (ℤ × ℤ) → List (ℤ × ℤ) → ℕ → ℤ × ℤ
match_at a b lag = total plus origin (meeting a b lag) (length a)

-- the match of each lag from 0 to N - 1
abbrev pub matches : List (ℤ × ℤ) → List (ℤ × ℤ) → List (ℤ × ℤ)
matches a b = map (match_at a b) (range_with_len 0 (length a))

-- the same of pressures, which are counts from 0 on
unfoldable pub pressure_match : List ℕ → List ℕ → ℕ → ℕ
pressure_match p q lag = total ◌+◌ 0 (λ t. slice_index p t * slice_index q ((t + lag) % length p)) (length p)

-- the least k below n at which f is largest
unfoldable pub best : (ℕ → ℤ) → ℕ → ℕ
best f zero = 0
best f (suc n) = cond (int_lt (f (best f n)) (f n)) n (best f n)

-- the same by the first parts of pairs
abbrev pub best_first : (ℕ → ℤ × ℤ) → ℕ → ℕ
best_first f n = best (λ k. (f k).0) n

-- the same of counts
abbrev pub best_count : (ℕ → ℕ) → ℕ → ℕ
best_count f n = best (λ k. pos (f k)) n

-- it is below n, f is nowhere larger, and before it f is smaller
pub record LeastBest (f : ℕ → ℤ) (n k : ℕ) : Type 0 where
  pub below : k < n
  pub largest : (j : ℕ) → j < n → f j ≤ℤ f k
  pub least : (j : ℕ) → j < k → f j <ℤ f k

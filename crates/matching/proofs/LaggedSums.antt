-- The lagged sum, a run of pairs at a time.
use Rattle.std.proofs.Common.{◌≡◌, ℕ, suc, ◌+◌, ◌-◌, ◌%◌, ◌<◌, List, [], ◌∷◌, length, get_or, take, drop, sym, ap, ◌∙◌, mod-eq_of_lt, length-drop, arith}
use native.Mathlib.Nat.{mod-eq-sub-mod}
use Rattle.std.specs.List.{zip}
use Rattle.std.proofs.lemmas.List.{get_or-take, get_or-drop, length-take-le, take_all, get_or_default}
use Rattle.std.proofs.lemmas.Grind.{get_or_after_one}
use Rattle.arithmetic.specs.Meaning.{Meaning}
use Rattle.arithmetic.specs.Series.{series}
use Rattle.arithmetic.proofs.Series.{series_one, series_more}
use Rattle.matching.specs.Readings.{added, lag_term, lagged}

module _ {A R : Type 0} (m : Meaning A R) where
  -- a run of pairs whose products are the terms from t on
  added_run : (f : ℕ → A) (t : ℕ) (xs ys : List A) (sum : A) → 0 < t → sum ≡ series m f t → length ys ≡ length xs
      → ((k : ℕ) → k < length xs → m.product (get_or xs k m.zero) (get_or ys k m.zero) ≡ f (t + k))
      → added m sum (zip xs ys) ≡ series m f (t + length xs)
  added_run f t [] ys sum some is same each = is ∙ ap (series m f) (omega arith)
  added_run f t (x ∷ xs) [] sum some is same each = absurd (omega arith)
  added_run f t (x ∷ xs) (y ∷ ys) sum some is same each =
      let here : m.product x y ≡ f t = each 0 (omega arith) ∙ ap f (omega arith) in
      let next : m.sum sum (m.product x y) ≡ series m f (t + 1) = ap (λ z. m.sum z (m.product x y)) is ∙ ap (m.sum (series m f t)) here ∙ sym (series_more m f t some) in
      added_run f (t + 1) xs ys (m.sum sum (m.product x y)) (omega arith) next (omega arith) (λ k h. each (suc k) (omega arith) ∙ ap f (omega arith))
      ∙ ap (series m f) (omega arith)

  -- a split at n - lag and b at the lag: the first samples meet, then those after them, and what is left of a meets the front of b
  pub lagged_runs : (a b early late front rest : List A) (lag : ℕ) (x y first sum whole : A) → lag < length a → length b ≡ length a
      → early ≡ take (length a - lag) a → late ≡ drop (length a - lag) a → front ≡ take lag b → rest ≡ drop lag b
      → x ≡ get_or early 0 x → y ≡ get_or rest 0 y → first ≡ m.product x y
      → sum ≡ added m first (zip (take (length early - 1) (drop 1 early)) (take (length rest - 1) (drop 1 rest)))
      → whole ≡ added m sum (zip late front) → whole ≡ lagged m a b lag
  unfolding lagged
  lagged_runs a b early late front rest lag x y first sum whole below same early_is late_is front_is rest_is x_is y_is begun one two =
      let n = length a in
      let r = n - lag in
      let f = lag_term m a b lag in
      let term : (t s : ℕ) → (t + lag) % n ≡ s → m.product (get_or a t m.zero) (get_or b s m.zero) ≡ f t = λ t s e. ap (λ k. m.product (get_or a t m.zero) (get_or b k m.zero)) (sym e) in
      let early_at : (k : ℕ) → k < r → get_or early k m.zero ≡ get_or a k m.zero = λ k h. ap (λ l. get_or l k m.zero) early_is ∙ get_or-take r a k m.zero h in
      let rest_at : (k : ℕ) → get_or rest k m.zero ≡ get_or b (lag + k) m.zero = λ k. ap (λ l. get_or l k m.zero) rest_is ∙ get_or-drop lag b k m.zero in
      let late_at : (k : ℕ) → get_or late k m.zero ≡ get_or a (r + k) m.zero = λ k. ap (λ l. get_or l k m.zero) late_is ∙ get_or-drop r a k m.zero in
      let front_at : (k : ℕ) → k < lag → get_or front k m.zero ≡ get_or b k m.zero = λ k h. ap (λ l. get_or l k m.zero) front_is ∙ get_or-take lag b k m.zero h in
      let early_long : length early ≡ r = ap length early_is ∙ length-take-le r a (omega arith) in
      let rest_long : length rest ≡ r = ap length rest_is ∙ length-drop lag b ∙ omega arith in
      let late_long : length late ≡ lag = ap length late_is ∙ length-drop r a ∙ omega arith in
      let front_long : length front ≡ lag = ap length front_is ∙ length-take-le lag b (omega arith) in
      let xs = drop 1 early in
      let ys = drop 1 rest in
      let xs_long : length xs ≡ r - 1 = length-drop 1 early ∙ omega arith in
      let ys_long : length ys ≡ r - 1 = length-drop 1 rest ∙ omega arith in
      let begins : first ≡ series m f 1 =
      begun ∙ (λ i. m.product ((x_is ∙ get_or_default early 0 x m.zero (omega arith) ∙ early_at 0 (omega arith)) i) ((y_is ∙ get_or_default rest 0 y m.zero (omega arith) ∙ rest_at 0) i)) ∙ term 0 (lag + 0) (mod-eq_of_lt (omega arith) ∙ omega arith) ∙ sym (series_one m f) in
      let middle : (k : ℕ) → k < length xs → m.product (get_or xs k m.zero) (get_or ys k m.zero) ≡ f (1 + k) =
      λ k h.
      (λ i. m.product ((get_or_after_one early k m.zero ∙ early_at (1 + k) (omega arith)) i) ((get_or_after_one rest k m.zero ∙ rest_at (1 + k)) i))
      ∙ term (1 + k) (lag + (1 + k)) (mod-eq_of_lt (omega arith) ∙ omega arith) in
      let sum_is : sum ≡ series m f r =
      one ∙ (λ i. added m first (zip (take_all (length early - 1) xs (omega arith) i) (take_all (length rest - 1) ys (omega arith) i)))
      ∙ added_run f 1 xs ys first (omega arith) begins (omega arith) middle ∙ ap (series m f) (omega arith) in
      let last : (k : ℕ) → k < length late → m.product (get_or late k m.zero) (get_or front k m.zero) ≡ f (r + k) =
      λ k h.
      let back : r + k + lag - n ≡ k = omega arith in
      let round : (r + k + lag) % n ≡ k = mod-eq-sub-mod (omega arith) ∙ ap (λ j. j % n) back ∙ mod-eq_of_lt (omega arith) in
      (λ i. m.product (late_at k i) (front_at k (omega arith) i)) ∙ term (r + k) k round in
      two ∙ added_run f r late front sum (omega arith) sum_is (omega arith) last ∙ ap (series m f) (omega arith)

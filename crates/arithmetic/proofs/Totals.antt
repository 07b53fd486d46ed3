-- The sum from zero on. Its value is the ordered sum's, and over an exact arithmetic it may be cut, swapped and regrouped.
use mathlib.Core.Path.{◌≡◌, ap, refl, sym, ◌∙◌, ◌≡⟨◌⟩◌, ◌∎}
use mathlib.Core.Logic.{◌⊎◌, ⊎_elim}
use Prim.Native.Nat.{ℕ, zero, suc, ◌+◌, ◌*◌, ◌<◌}
use native.Mathlib.Nat.{add-zero, add-suc, add_comm, mul-zero, mul-suc, not-suc-le-zero}
use native.Mathlib.Omega.{arith}
use Rattle.arithmetic.specs.Meaning.{Meaning}
use Rattle.arithmetic.specs.Series.{series}
use Rattle.arithmetic.proofs.Ladder.{ExactLaws, FullLaws}

-- zero + f 0 + f 1 + .. + f (n - 1)
unfoldable pub total : {A R : Type 0} → Meaning A R → (ℕ → A) → ℕ → A
total m f zero = m.zero
total m f (suc n) = m.sum (total m f n) (f n)

below_or_last : (i n : ℕ) → i < suc n → (i < n) ⊎ (i ≡ n)
below_or_last i n h = grind arith

module _ {A R : Type 0} {m : Meaning A R} (law : ExactLaws m) where
  pub sum_of_left_value : (a b : A) → m.sum (m.value a) b ≡ m.sum a b
  sum_of_left_value a b =
      m.sum (m.value a) b ≡⟨ sym (law.every.sum_of_values (m.value a) b) ⟩
      m.sum (m.value (m.value a)) (m.value b) ≡⟨ ap (λ x. m.sum x (m.value b)) (law.every.value_value a) ⟩
      m.sum (m.value a) (m.value b) ≡⟨ law.every.sum_of_values a b ⟩
      m.sum a b ∎

  sum_of_right_value : (a b : A) → m.sum a (m.value b) ≡ m.sum a b
  sum_of_right_value a b = law.exact.sum_comm a (m.value b) ∙ sum_of_left_value b a ∙ law.exact.sum_comm b a

  sum_zero : (a : A) → m.sum a m.zero ≡ m.value a
  sum_zero a = law.exact.sum_comm a m.zero ∙ law.exact.zero_sum a

  zero_zero : m.sum m.zero m.zero ≡ m.zero
  zero_zero = law.exact.zero_sum m.zero ∙ law.every.zero_reduced

  sum_swap : (a b c : A) → m.sum a (m.sum b c) ≡ m.sum b (m.sum a c)
  sum_swap a b c =
      m.sum a (m.sum b c) ≡⟨ sym (law.exact.sum_assoc a b c) ⟩
      m.sum (m.sum a b) c ≡⟨ ap (λ x. m.sum x c) (law.exact.sum_comm a b) ⟩
      m.sum (m.sum b a) c ≡⟨ law.exact.sum_assoc b a c ⟩
      m.sum b (m.sum a c) ∎

  sum_of_sums : (a b c d : A) → m.sum (m.sum a b) (m.sum c d) ≡ m.sum (m.sum a c) (m.sum b d)
  sum_of_sums a b c d =
      m.sum (m.sum a b) (m.sum c d) ≡⟨ law.exact.sum_assoc a b (m.sum c d) ⟩
      m.sum a (m.sum b (m.sum c d)) ≡⟨ ap (m.sum a) (sum_swap b c d) ⟩
      m.sum a (m.sum c (m.sum b d)) ≡⟨ sym (law.exact.sum_assoc a c (m.sum b d)) ⟩
      m.sum (m.sum a c) (m.sum b d) ∎

  pub total_reduced : (f : ℕ → A) (n : ℕ) → m.value (total m f n) ≡ total m f n
  unfolding total
  total_reduced f zero = law.every.zero_reduced
  total_reduced f (suc n) = law.every.sum_reduced (total m f n) (f n)

  -- of reduced terms, the ordered sum itself
  pub series_total : (f : ℕ → A) (n : ℕ) → ((q : ℕ) → m.value (f q) ≡ f q) → series m f n ≡ total m f n
  unfolding series total
  series_total f zero h = refl
  series_total f (suc zero) h = sym (law.exact.zero_sum (f 0) ∙ h 0)
  series_total f (suc (suc n)) h = ap (λ x. m.sum x (f (suc n))) (series_total f (suc n) h)

  pub total_same : {f g : ℕ → A} (n : ℕ) → ((q : ℕ) → q < n → f q ≡ g q) → total m f n ≡ total m g n
  unfolding total
  total_same {f} {g} zero h = refl
  total_same {f} {g} (suc n) h =
      ap (λ x. m.sum x (f n)) (total_same n (λ q l. h q (omega arith))) ∙ ap (m.sum (total m g n)) (h n (omega arith))

  pub total_zeros : (n : ℕ) → total m (λ _. m.zero) n ≡ m.zero
  unfolding total
  total_zeros zero = refl
  total_zeros (suc n) = ap (λ x. m.sum x m.zero) (total_zeros n) ∙ zero_zero

  pub total_append : (f : ℕ → A) (n k : ℕ) → total m f (n + k) ≡ m.sum (total m f n) (total m (λ j. f (n + j)) k)
  unfolding total
  total_append f n zero = ap (total m f) (add-zero n) ∙ sym (sum_zero (total m f n) ∙ total_reduced f n)
  total_append f n (suc k) =
      total m f (n + suc k) ≡⟨ ap (total m f) (add-suc n k) ⟩
      m.sum (total m f (n + k)) (f (n + k)) ≡⟨ ap (λ x. m.sum x (f (n + k))) (total_append f n k) ⟩
      m.sum (m.sum (total m f n) (total m (λ j. f (n + j)) k)) (f (n + k)) ≡⟨ law.exact.sum_assoc _ _ (f (n + k)) ⟩
      m.sum (total m f n) (total m (λ j. f (n + j)) (suc k)) ∎

  -- the sum of place by place sums
  pub total_sum : (f g : ℕ → A) (n : ℕ) → total m (λ j. m.sum (f j) (g j)) n ≡ m.sum (total m f n) (total m g n)
  unfolding total
  total_sum f g zero = sym zero_zero
  total_sum f g (suc n) = ap (λ x. m.sum x (m.sum (f n) (g n))) (total_sum f g n) ∙ sum_of_sums (total m f n) (total m g n) (f n) (g n)

  -- by rows or by columns
  pub total_swap : (h : ℕ → ℕ → A) (k r : ℕ) → total m (λ l. total m (h l) k) r ≡ total m (λ i. total m (λ l. h l i) r) k
  unfolding total
  total_swap h k zero = sym (total_zeros k)
  total_swap h k (suc r) = ap (λ x. m.sum x (total m (h r) k)) (total_swap h k r) ∙ sym (total_sum (λ i. total m (λ l. h l i) r) (h r) k)

  -- by blocks of k
  total_by_blocks : (f : ℕ → A) (k r : ℕ) → total m f (k * r) ≡ total m (λ l. total m (λ i. f (k * l + i)) k) r
  unfolding total
  total_by_blocks f k zero = ap (total m f) (mul-zero k)
  total_by_blocks f k (suc r) =
      total m f (k * suc r) ≡⟨ ap (total m f) (mul-suc k r) ⟩
      total m f (k * r + k) ≡⟨ total_append f (k * r) k ⟩
      m.sum (total m f (k * r)) (total m (λ i. f (k * r + i)) k) ≡⟨ ap (λ x. m.sum x (total m (λ i. f (k * r + i)) k)) (total_by_blocks f k r) ⟩
      total m (λ l. total m (λ i. f (k * l + i)) k) (suc r) ∎

  -- by remainders: first every r-th term from q on, and then these sums
  pub total_by_remainders : (f : ℕ → A) (r len : ℕ) → total m f (r * len) ≡ total m (λ q. total m (λ i. f (q + r * i)) len) r
  total_by_remainders f r len =
      total m f (r * len) ≡⟨ total_by_blocks f r len ⟩
      total m (λ i. total m (λ q. f (r * i + q)) r) len ≡⟨ total_swap (λ i q. f (r * i + q)) r len ⟩
      total m (λ q. total m (λ i. f (r * i + q)) len) r ≡⟨ total_same r (λ q _. total_same len (λ i _. ap f (add_comm (r * i) q))) ⟩
      total m (λ q. total m (λ i. f (q + r * i)) len) r ∎

  -- with the one term i changed by d: the last, or one before it
  module _ (f g : ℕ → A) (d : A) (n i : ℕ) (others : (j : ℕ) → j < suc n → (j ≡ i → ⊥) → g j ≡ f j) where
    last_changed : i ≡ n → m.value (g i) ≡ m.sum d (f i) → m.sum (total m g n) (g n) ≡ m.sum d (m.sum (total m f n) (f n))
    last_changed e here =
        let before = total m f n in
        m.sum (total m g n) (g n) ≡⟨ ap (λ x. m.sum x (g n)) (total_same n (λ j b. others j (omega arith) (λ same. omega arith))) ⟩
        m.sum before (g n) ≡⟨ ap (λ x. m.sum before (g x)) (sym e) ⟩
        m.sum before (g i) ≡⟨ sym (sum_of_right_value before (g i)) ⟩
        m.sum before (m.value (g i)) ≡⟨ ap (m.sum before) here ⟩
        m.sum before (m.sum d (f i)) ≡⟨ sum_swap before d (f i) ⟩
        m.sum d (m.sum before (f i)) ≡⟨ ap (λ x. m.sum d (m.sum before (f x))) e ⟩
        m.sum d (m.sum before (f n)) ∎

    changed_before : i < n → total m g n ≡ m.sum d (total m f n) → m.sum (total m g n) (g n) ≡ m.sum d (m.sum (total m f n) (f n))
    changed_before l changed =
        let before = total m f n in
        m.sum (total m g n) (g n) ≡⟨ ap (λ x. m.sum x (g n)) changed ⟩
        m.sum (m.sum d before) (g n) ≡⟨ ap (m.sum (m.sum d before)) (others n (omega arith) (λ e. omega arith)) ⟩
        m.sum (m.sum d before) (f n) ≡⟨ law.exact.sum_assoc d before (f n) ⟩
        m.sum d (m.sum before (f n)) ∎

  pub total_changed : (f g : ℕ → A) (d : A) (n i : ℕ) → i < n → ((j : ℕ) → j < n → (j ≡ i → ⊥) → g j ≡ f j) → m.value (g i) ≡ m.sum d (f i) →
      total m g n ≡ m.sum d (total m f n)
  unfolding total
  total_changed f g d zero i h others here = absurd (not-suc-le-zero h)
  total_changed f g d (suc n) i h others here =
      ⊎_elim
      (λ (l : i < n). changed_before f g d n i others l (total_changed f g d n i l (λ j b. others j (omega arith)) here))
      (λ (e : i ≡ n). last_changed f g d n i others e here)
      (below_or_last i n h)

  -- with one term that is not zero
  pub total_single : (f : ℕ → A) (n i : ℕ) → i < n → ((j : ℕ) → j < n → (j ≡ i → ⊥) → f j ≡ m.zero) → total m f n ≡ m.value (f i)
  total_single f n i h others =
      total m f n ≡⟨ total_changed (λ _. m.zero) f (f i) n i h others (sym (sum_zero (f i))) ⟩
      m.sum (f i) (total m (λ _. m.zero) n) ≡⟨ ap (m.sum (f i)) (total_zeros n) ⟩
      m.sum (f i) m.zero ≡⟨ sum_zero (f i) ⟩
      m.value (f i) ∎

  -- what is its own double is zero
  double_is_zero : (a : A) → m.sum a a ≡ a → a ≡ m.zero
  double_is_zero a twice =
      let b = m.difference m.zero a in
      let gone : m.sum b a ≡ m.zero = law.exact.difference_sum m.zero a ∙ law.every.zero_reduced in
      a ≡⟨ sym twice ∙ sym (law.every.sum_reduced a a) ∙ ap m.value twice ⟩
      m.value a ≡⟨ sym (law.exact.zero_sum a) ⟩
      m.sum m.zero a ≡⟨ ap (λ x. m.sum x a) (sym gone) ⟩
      m.sum (m.sum b a) a ≡⟨ law.exact.sum_assoc b a a ⟩
      m.sum b (m.sum a a) ≡⟨ ap (m.sum b) twice ⟩
      m.sum b a ≡⟨ gone ⟩
      m.zero ∎

  -- an operation that keeps sums
  module _ (g : A → A) (keeps : (a b : A) → g (m.sum a b) ≡ m.sum (g a) (g b)) where
    keeps_zero : g m.zero ≡ m.zero
    keeps_zero = double_is_zero (g m.zero) (sym (keeps m.zero m.zero) ∙ ap g zero_zero)

    keeps_total : (f : ℕ → A) (n : ℕ) → g (total m f n) ≡ total m (λ j. g (f j)) n
    unfolding total
    keeps_total f zero = keeps_zero
    keeps_total f (suc n) = keeps (total m f n) (f n) ∙ ap (λ x. m.sum x (g (f n))) (keeps_total f n)

  pub turn_of_total : (f : ℕ → A) (e n : ℕ) → m.turn (total m f n) e ≡ total m (λ j. m.turn (f j) e) n
  turn_of_total f e n = keeps_total (λ a. m.turn a e) (λ a b. law.exact.turn_sum a b e) f n

module _ {A R : Type 0} {m : Meaning A R} (law : FullLaws m) where
  pub product_of_total_left : (f : ℕ → A) (b : A) (n : ℕ) → m.product (total m f n) b ≡ total m (λ j. m.product (f j) b) n
  product_of_total_left f b n = keeps_total law.exactly (λ a. m.product a b) (λ a c. law.full.product_sum_left a c b) f n

  pub product_of_total_right : (a : A) (f : ℕ → A) (n : ℕ) → m.product a (total m f n) ≡ total m (λ j. m.product a (f j)) n
  product_of_total_right a f n = keeps_total law.exactly (m.product a) (law.full.product_sum_right a) f n

-- Dealing by the recursion is dealing by the formula of places, and puts every sample at a place of its own.
use Rattle.std.specs.Prelude.{◌≡◌, ℕ, ◌+◌, ◌*◌, ◌/◌, ◌<◌, List, [], ◌∷◌, length, slice_index_or}
use Rattle.plan.specs.Radices.{size, Plan}
use Rattle.plan.specs.Dealing.{dealt, place}

-- one digit for each radix, and below it
abbrev pub Digits : List ℕ → List ℕ → Type 0
Digits [] [] = Unit {0}
Digits [] (q ∷ qs) = ⊥
Digits (r ∷ rs) [] = ⊥
Digits (r ∷ rs) (q ∷ qs) = (q < r) × Digits rs qs

-- the sample with the digits q1, q2, ..: q1 + r1 (q2 + r2 (q3 + ..))
abbrev pub sample_of : List ℕ → List ℕ → ℕ
sample_of [] qs = 0
sample_of (r ∷ rs) [] = 0
sample_of (r ∷ rs) (q ∷ qs) = q + r * sample_of rs qs

-- and its place among n: q1 n/r1 + q2 n/(r1 r2) + ..
abbrev pub place_among : ℕ → List ℕ → List ℕ → ℕ
place_among n [] qs = 0
place_among n (r ∷ rs) [] = 0
place_among n (r ∷ rs) (q ∷ qs) = q * (n / r) + place_among (n / r) rs qs

-- what the places of a plan are, and that the recursion deals to them
pub record ByPlaces (A : Type 0) (rs : List ℕ) : Type 0 where
  -- every sample has digits, and goes to the place that they give
  pub digits : (n : ℕ) → n < size rs → (qs : List ℕ) × Digits rs qs × (sample_of rs qs ≡ n)
  pub formula : (qs : List ℕ) → Digits rs qs → place rs (sample_of rs qs) ≡ place_among (size rs) rs qs
  -- the places of the samples are all the places, each once
  pub within : (n : ℕ) → n < size rs → place rs n < size rs
  pub once : (n k : ℕ) → n < size rs → k < size rs → place rs n ≡ place rs k → n ≡ k
  pub reached : (p : ℕ) → p < size rs → (n : ℕ) × (n < size rs) × (place rs n ≡ p)
  -- the recursion keeps the length and puts each sample at its place
  pub long : (d : A) (a : List A) → length a ≡ size rs → length (dealt d rs a) ≡ size rs
  pub dealt_there : (d : A) (a : List A) (n : ℕ) → n < size rs → slice_index_or (dealt d rs a) (place rs n) d ≡ slice_index_or a n d

-- under every plan, of samples of any kind
abbrev pub DealingStands : Type 0 → Type 0
DealingStands A = (rs : List ℕ) → Plan rs → ByPlaces A rs

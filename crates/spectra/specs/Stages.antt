-- The same tones by stages, each of which combines every block of a dealt list where it stands.
use Rattle.std.specs.Prelude.{ℕ, zero, suc, ◌*◌, ◌/◌, List, [], ◌∷◌, ◌++◌, length, take, drop}
use Rattle.arithmetic.specs.Meaning.{Meaning}
use Rattle.plan.specs.Radices.{size}
use Rattle.spectra.specs.Tones.{combine}

-- f on each of the first c blocks of n
unfoldable pub blocks : {A : Type 0} → (List A → List A) → ℕ → ℕ → List A → List A
blocks f n zero xs = xs
blocks f n (suc c) xs = f (take n xs) ++ blocks f n c (drop n xs)

-- the stage of radix r, where the radices after it have the product len
unfoldable pub staged : {A R : Type 0} → Meaning A R → ℕ → ℕ → List A → List A
staged m r len xs = blocks (combine m r len) (r * len) (length xs / (r * len)) xs

-- every stage, the last radix first
unfoldable pub stages : {A R : Type 0} → Meaning A R → List ℕ → List A → List A
stages m [] xs = xs
stages m (r ∷ rs) xs = staged m r (size rs) (stages m rs xs)

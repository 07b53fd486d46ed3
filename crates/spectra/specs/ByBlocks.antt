-- What the buffer of a run holds between two stages: in each of its blocks the tones of the samples that were dealt there.
--
-- first   the radices whose stages are left; their product is how many blocks there are
-- last    the radices whose stages are done; their product is how many elements a block has
use Rattle.std.specs.Prelude.{◌≡◌, ℕ, ◌*◌, ◌<◌, List, ◌++◌, take, drop}
use Rattle.arithmetic.specs.Meaning.{Meaning}
use Rattle.plan.specs.Radices.{size}
use Rattle.plan.specs.Dealing.{every, dealt, source}
use Rattle.spectra.specs.Tones.{tones}

-- block b, where each has n elements
abbrev pub block : {A : Type 0} → ℕ → ℕ → List A → List A
block n b xs = take n (drop (b * n) xs)

-- the samples of block b: the one that the first radices deal to place b, and from there on each that is their product further
abbrev pub block_samples : {A : Type 0} → A → List ℕ → List ℕ → List A → ℕ → List A
block_samples d first last a b = every d (size first) (size last) a (source first b)

-- the buffer of a run that began with the samples a, where the first radices are left and the last are done
pub record ByBlocks {A R : Type 0} (m : Meaning A R) (first last : List ℕ) (a buf : List A) : Type 0 where
  -- these are the samples that dealing put into the block, in the order of the last radices
  pub samples : (b : ℕ) → b < size first → block (size last) b (dealt m.zero (first ++ last) a) ≡ dealt m.zero last (block_samples m.zero first last a b)
  -- now it holds their tones under the last radices
  pub blocks : (b : ℕ) → b < size first → block (size last) b buf ≡ tones m last (block_samples m.zero first last a b)

-- The stroke, whatever memory it lies in. Assumes nothing.
--
-- count     a whole number that the pad measured
-- path      where the pen was at each sample: a pair x, y of counts from -1,023 to 1,023
-- pressure  a count from 0 to 1,023 at each sample, or none at all
-- field     one count of a sample: x, y or the pressure
use Rattle.std.specs.Prelude.{◌≡◌, ℕ, zero, suc, ◌+◌, ◌<◌, ◌≤◌, cond, List, [], length, ℤ, pos, IfSome, Some, None, Option, nat_lt, slice_index, slice_index_or, unsigned_abs}
use Rattle.std.specs.Option.{unwrap_or, option_map}
use Rattle.std.specs.List.{slice_get, AllByRecursion}
use Rattle.stroke.specs.declared.fields.Field.{Field}
use Rattle.stroke.specs.declared.fields.Field.TheVariants.{X, Y, Pressure}

pub record Contents : Type 0 where
  pub path : List (ℤ × ℤ)
  pub pressure : Option (List ℕ)

-- the most samples of a stroke
abbrev pub most_samples : ℕ
most_samples = 512

-- the largest count, and how far a negative one may go
abbrev pub limit : ℕ
limit = 1023

-- a path sample within its limits
abbrev pub Near : ℤ × ℤ → Type 0
Near p = (unsigned_abs p.0 ≤ limit) × (unsigned_abs p.1 ≤ limit)

-- 1 to 512 samples, each count within its limits, and as many pressures as samples if there are any
pub record Sound (c : Contents) : Type 0 where
  pub some : 0 < length c.path
  pub most : length c.path ≤ most_samples
  pub near : AllByRecursion Near c.path
  pub pressed : IfSome c.pressure (λ us. (length us ≡ length c.path) × AllByRecursion (λ u. u ≤ limit) us)

-- x and y of sample i
abbrev pub path_at : Contents → ℕ → ℤ × ℤ
path_at c i = slice_index_or c.path i (pos 0, pos 0)

-- the pressures, and no element where there are none
abbrev pub pressures : Contents → List ℕ
pressures c = unwrap_or c.pressure []

-- x, y and the pressure of sample i, if there is such a sample; a pressure that is not there is 0
abbrev pub sample : Contents → ℕ → Option (ℤ × ℤ × ℕ)
sample c i = option_map (λ p. (p.0, p.1, slice_index (pressures c) i)) (slice_get c.path i)

-- the first field of a sample that is beyond its limits
abbrev pub field_beyond : ℤ → ℤ → ℕ → Option Field
field_beyond x y u =
    cond (nat_lt limit (unsigned_abs x)) (Some X)
    (cond (nat_lt limit (unsigned_abs y)) (Some Y)
    (cond (nat_lt limit u) (Some Pressure) None))

-- the same of sample i, where a pressure that is not there counts as 0
abbrev pub beyond_at : Contents → ℕ → Option Field
beyond_at c i = field_beyond (path_at c i).0 (path_at c i).1 (slice_index (pressures c) i)

-- the sample i with that field, or what is found after it
abbrev pub here_or : ℕ → Option Field → Option (ℕ × Field) → Option (ℕ × Field)
here_or i (Some f) later = Some (i, f)
here_or i None later = later

-- of n samples from i on, the first field that is beyond its limits: its sample, and which of its fields
unfoldable pub beyond_from : Contents → ℕ → ℕ → Option (ℕ × Field)
beyond_from c i zero = None
beyond_from c i (suc n) = here_or i (beyond_at c i) (beyond_from c (i + 1) n)

-- the same of the whole stroke
abbrev pub first_beyond : Contents → Option (ℕ × Field)
first_beyond c = beyond_from c 0 (length c.path)

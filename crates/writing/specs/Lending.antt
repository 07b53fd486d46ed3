-- A stroke in lent lists of counts: what it holds, and by what it is refused.
use Rattle.std.specs.Prelude.{ℕ, Bool, true, cond, not, ◌||◌, List, length, Some, None, Ok, Err, Option, Result, ◌==◌, nat_lt}
use Rattle.std.specs.Option.{option_map}
use Rattle.writing.specs.declared.lent.Lent.{Lent}
use Rattle.writing.specs.declared.lent.LentFault.{LentFault}
use Rattle.writing.specs.declared.lent.LentFault.TheVariants.{Length, Count, Room}
use Rattle.stroke.specs.declared.fields.Field.{Field}
use Rattle.stroke.specs.Contents.{Contents, most_samples, first_beyond}

-- the number and the place by which a refusal of a lent stroke is known
abbrev pub lent_number : LentFault → ℕ
lent_number Length = 31
lent_number (Count i) = 33
lent_number Room = 34

-- the index of a sample, or 0 where none is stated
abbrev pub lent_place : LentFault → ℕ
lent_place Length = 0
lent_place (Count i) = i
lent_place Room = 0

-- what the lists hold
abbrev pub held : Lent → Contents
held s = record {
  path = s.path.now;
  pressure = option_map (λ us. us.now) s.pressure;
}

-- as many pressures as samples, if there are any
abbrev pub as_many : Option (List ℕ) → ℕ → Bool
as_many None n = true
as_many (Some us) n = length us == n

-- 1 to 512 samples, and as many pressures if there are any
abbrev pub sized : Contents → Result (Unit {0}) LentFault
sized c =
    cond (length c.path == 0 || nat_lt most_samples (length c.path)) (Err Length)
    (cond (not (as_many c.pressure (length c.path))) (Err Length) (Ok tt))

-- the sample that was found beyond its limits, if any was
abbrev pub unless_found : Option (ℕ × Field) → Result (Unit {0}) LentFault
unless_found None = Ok tt
unless_found (Some (i, f)) = Err (Count i)

-- every count is within its limits
abbrev pub within_limits : Contents → Result (Unit {0}) LentFault
within_limits c = unless_found (first_beyond c)

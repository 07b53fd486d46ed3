-- The cells of a sheet: n samples, and their tones after them. The samples move as the plain sheet's do, and the tones follow.
use Rattle.std.specs.Prelude.{ℕ, ◌+◌, ◌-◌, ◌*◌, ◌/◌, ◌%◌, Bool, cond, List, ◌++◌, map, length, take, drop, is_ok, Ok, Err, Result, slice_index_or}
use Rattle.std.specs.List.{range_with_len}
use Rattle.std.specs.Result.{result_and}
use Rattle.arithmetic.specs.Meaning.{Meaning}
use Rattle.refusal.specs.declared.Fault.{Fault}
use Rattle.refusal.specs.declared.Fault.TheVariants.{Unfit}
use Rattle.spectrum.specs.Granted.{divided, whole}
use Rattle.spectra.specs.Moves.{mirrored, laid}
use Rattle.spectra.specs.Spectra.{spectrum}
use Rattle.cells.specs.Plain.{PlainCall, edit, shift, mirror, lay, tone, plainly_granted, moved}

-- the arithmetic is exact
abbrev pub exactly : Bool → Result (Unit {0}) Fault
exactly exact = cond exact (Ok tt) (Err Unfit)

-- n samples with their tones, in len cells: n divides the span, the arithmetic is exact, and there are 2 n cells
abbrev pub sheet_for : {A R : Type 0} → Meaning A R → ℕ → ℕ → Result (Unit {0}) Fault
sheet_for m n len = result_and (divided m.span n) (result_and (exactly m.exact) (whole (2 * n) len))

-- a call on the cells of n samples
abbrev pub granted : {A R : Type 0} → Meaning A R → ℕ → PlainCall A → List A → Result (Unit {0}) Fault
granted m n c cells = result_and (sheet_for m n (length cells)) (plainly_granted n c)

-- x of the n parts of a circle, less whole circles, in steps of the span
abbrev pub steps : {A R : Type 0} → Meaning A R → ℕ → ℕ → ℕ
steps m n x = (x % n) * (m.span / n)

-- where sample i changes, tone k gets the change turned by i k parts
abbrev pub tone_edited : {A R : Type 0} → Meaning A R → ℕ → A → List A → ℕ → A
tone_edited m i change y k = m.sum (slice_index_or y k m.zero) (m.turn change (steps m (length y) (i * k)))

unfoldable pub tones_edited : {A R : Type 0} → Meaning A R → ℕ → A → List A → List A
tones_edited m i change y = map (tone_edited m i change y) (range_with_len 0 (length y))

-- where the samples go back by h, tone k is turned by (N - h) k parts
abbrev pub tone_shifted : {A R : Type 0} → Meaning A R → ℕ → List A → ℕ → A
tone_shifted m h y k = m.turn (slice_index_or y k m.zero) (steps m (length y) ((length y - h) * k))

unfoldable pub tones_shifted : {A R : Type 0} → Meaning A R → ℕ → List A → List A
tones_shifted m h y = map (tone_shifted m h y) (range_with_len 0 (length y))

-- the tones y of the samples a after a granted call
abbrev pub tones_after : {A R : Type 0} → Meaning A R → PlainCall A → List A → List A → List A
tones_after m (edit i v) a y = tones_edited m i (m.difference v (slice_index_or a i m.zero)) y
tones_after m (shift h) a y = tones_shifted m h y
tones_after m mirror a y = mirrored m.zero y
tones_after m (lay b) a y = laid m y (spectrum m b)
tones_after m (tone k) a y = y

-- the cells after a granted call
abbrev pub followed : {A R : Type 0} → Meaning A R → ℕ → PlainCall A → List A → List A
followed m n c cells = moved m c (take n cells) ++ tones_after m c (take n cells) (drop n cells)

-- the cells after a call that answers r: a refusal leaves them
abbrev pub cells_after : {A R T : Type 0} → Result T Fault → Meaning A R → ℕ → PlainCall A → List A → List A
cells_after r m n c cells = cond (is_ok r) (followed m n c cells) cells

-- what a tone answers: tone k, as the arithmetic reads it
abbrev pub heard : {A R : Type 0} → Meaning A R → ℕ → ℕ → List A → Result R Fault
heard m n k cells = result_and (granted m n (tone k) cells) (Ok (m.reading (slice_index_or cells (n + k) m.zero)))

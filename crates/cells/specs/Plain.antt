-- The plain sheet: a list of N samples and nothing else, and what every call makes of it.
use Rattle.std.specs.Prelude.{ℕ, cond, List, [], ◌∷◌, length, Option, Some, None, is_ok, Ok, Err, Result, nat_lt, slice_set}
use Rattle.std.specs.Result.{result_and}
use Rattle.arithmetic.specs.Meaning.{Meaning}
use Rattle.refusal.specs.declared.Fault.{Fault}
use Rattle.refusal.specs.declared.Fault.TheVariants.{Place}
use Rattle.spectrum.specs.Granted.{whole}
use Rattle.spectra.specs.Moves.{shifted, mirrored, laid}
use Rattle.spectra.specs.Spectra.{defining}

-- a call with its arguments
pub data PlainCall (A : Type 0) : Type 0 where
  edit : ℕ → A → PlainCall A
  shift : ℕ → PlainCall A
  mirror : PlainCall A
  lay : List A → PlainCall A
  tone : ℕ → PlainCall A

-- there is a sample k among n
abbrev pub numbered : ℕ → ℕ → Result (Unit {0}) Fault
numbered n k = cond (nat_lt k n) (Ok tt) (Err (Place k))

-- which calls n samples grant: those of a number that they have, and a lay of as many samples
abbrev pub plainly_granted : {A : Type 0} → ℕ → PlainCall A → Result (Unit {0}) Fault
plainly_granted n (edit i v) = numbered n i
plainly_granted n (shift h) = numbered n h
plainly_granted n mirror = Ok tt
plainly_granted n (lay b) = whole n (length b)
plainly_granted n (tone k) = numbered n k

-- what a granted call makes of the samples
abbrev pub moved : {A R : Type 0} → Meaning A R → PlainCall A → List A → List A
moved m (edit i v) a = slice_set a i v
moved m (shift h) a = shifted m.zero h a
moved m mirror a = mirrored m.zero a
moved m (lay b) a = laid m a b
moved m (tone k) a = a

-- what a granted call tells: a tone its defining sum, as the arithmetic reads it, and the others nothing
abbrev pub told : {A R : Type 0} → Meaning A R → PlainCall A → List A → Option R
told m (edit i v) a = None
told m (shift h) a = None
told m mirror a = None
told m (lay b) a = None
told m (tone k) a = Some (m.reading (defining m a k))

-- the samples after a call
abbrev pub plain_after : {A R : Type 0} → Meaning A R → PlainCall A → List A → List A
plain_after m c a = cond (is_ok (plainly_granted (length a) c)) (moved m c a) a

-- what a call answers: what it tells where it is granted, or its refusal
abbrev pub plain_answer : {A R : Type 0} → Meaning A R → PlainCall A → List A → Result (Option R) Fault
plain_answer m c a = result_and (plainly_granted (length a) c) (Ok (told m c a))

-- the samples after every call of a list
abbrev pub plain_finally : {A R : Type 0} → Meaning A R → List (PlainCall A) → List A → List A
plain_finally m [] a = a
plain_finally m (c ∷ cs) a = plain_finally m cs (plain_after m c a)

-- what the calls of a list answer, in turn
abbrev pub plain_answers : {A R : Type 0} → Meaning A R → List (PlainCall A) → List A → List (Result (Option R) Fault)
plain_answers m [] a = []
plain_answers m (c ∷ cs) a = plain_answer m c a ∷ plain_answers m cs (plain_after m c a)

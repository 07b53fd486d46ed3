-- Runs for C, which holds one as two numbers: the radices of its plan, and how many stages are done.
use Rattle.std.specs.Prelude.{◌≡◌, ℕ, zero, suc, ◌-◌, ◌≤◌, cond, List, length, take, drop, Ok, Err, Result, nat_le, slice_index}
use Rattle.std.specs.Result.{result_and}
use Rattle.arithmetic.specs.Meaning.{Meaning}
use Rattle.plan.specs.Dealing.{dealt}
use Rattle.plan.specs.Radices.{size, turns, Plan}
use Rattle.refusal.specs.declared.Fault.{Fault}
use Rattle.refusal.specs.declared.Fault.TheVariants.{NoStage, StagesLeft}
use Rattle.spectra.specs.ByBlocks.{ByBlocks}
use Rattle.spectrum.specs.Granted.{plans, divided, lent, where_granted, cleared}
use Rattle.runs.specs.Runs.{begun, fresh}
use Rattle.spectra.specs.Stages.{staged}
use Rattle.crossing.specs.declared.status.Status.{Status}
use Rattle.crossing.specs.Answers.{status_of, answer_or}

-- how many stages are left
abbrev pub left : List ℕ → ℕ → ℕ
left rs done = length rs - done

-- a stage asks for a plan, a span and buffers for its length, and a stage that is left
abbrev pub stepping : ℕ → List ℕ → ℕ → ℕ → ℕ → Result (Unit {0}) Fault
stepping span rs done buf work =
    result_and (plans rs) (result_and (divided span (size rs)) (result_and (lent (size rs) buf work)
    (cond (nat_le (length rs) done) (Err NoStage) (Ok tt))))

-- the stage of the last radix that is left, whose parts are the blocks of the radices that are done
abbrev pub next_stage : {A R : Type 0} → Meaning A R → List ℕ → ℕ → List A → List A
next_stage m rs done buf = staged m (slice_index rs (left rs done - 1)) (size (drop (left rs done) rs)) buf

-- a run that is finished answers the turns that its stages made
abbrev pub finishing : List ℕ → ℕ → Result ℕ Fault
finishing rs done = result_and (plans rs) (cond (nat_le (length rs) done) (Ok (turns rs)) (Err StagesLeft))

pub record Deals {A R : Type 0} (m : Meaning A R) (rs : List ℕ) (buf work : List A) (status : Status) (buf' work' : List A) : Type 0 where
  pub status_is : status ≡ status_of (begun m.span rs (length buf) (length work) (fresh rs))
  pub buf_is : buf' ≡ where_granted (begun m.span rs (length buf) (length work) (fresh rs)) (dealt m.zero rs buf) buf
  pub work_is : work' ≡ cleared m (begun m.span rs (length buf) (length work) (fresh rs)) work

pub record Steps {A R : Type 0} (m : Meaning A R) (rs : List ℕ) (done : ℕ) (buf work : List A) (status : Status) (buf' work' : List A) : Type 0 where
  pub status_is : status ≡ status_of (stepping m.span rs done (length buf) (length work))
  pub buf_is : buf' ≡ where_granted (stepping m.span rs done (length buf) (length work)) (next_stage m rs done buf) buf
  pub work_is : work' ≡ cleared m (stepping m.span rs done (length buf) (length work)) work

pub record Finishes (rs : List ℕ) (done turns : ℕ) (status : Status) (turns' : ℕ) : Type 0 where
  pub status_is : status ≡ status_of (finishing rs done)
  pub turns_are : turns' ≡ answer_or turns (finishing rs done)

-- the buffer after i stages, each on what the one before it left
abbrev pub after_stages : {A R : Type 0} → Meaning A R → List ℕ → ℕ → List A → List A
after_stages m rs zero buf = buf
after_stages m rs (suc i) buf = next_stage m rs i (after_stages m rs i buf)

-- dealing and then i stages with nothing else written leave, in each block, the tones of its samples under the last i radices
abbrev pub RunsStand : {A R : Type 0} → Meaning A R → Type 0
RunsStand {A} m = (rs : List ℕ) (a : List A) (i : ℕ) → Plan rs → length a ≡ size rs → i ≤ length rs
    → ByBlocks m (take (left rs i) rs) (drop (left rs i) rs) a (after_stages m rs i (dealt m.zero rs a))

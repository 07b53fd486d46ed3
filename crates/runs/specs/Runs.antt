-- Runs: what is seen of one, what each of its calls makes of it, and which calls are refused.
use Rattle.std.specs.Prelude.{◌≡◌, false, ℕ, ◌+◌, ◌-◌, ◌*◌, cond, List, length, drop, Ok, Err, Result, ◌==◌, slice_index}
use Rattle.std.specs.Result.{result_and, result_map_both}
use Rattle.plan.specs.Radices.{size, radix_sum}
use Rattle.plan.specs.Planned.{radices_of}
use Rattle.refusal.specs.declared.Fault.{Fault}
use Rattle.refusal.specs.declared.Fault.TheVariants.{NoStage, StagesLeft}
use Rattle.runs.specs.declared.run.Run.{Run}
use Rattle.spectrum.specs.Granted.{divided, lent, plans}

-- the radices of a run's plan
abbrev pub plan_of : Run → List ℕ
plan_of run = radices_of run.plan

-- what is seen of a run: its radices, how many stages are left, and the turns that the others made
pub record Seen : Type 0 where
  pub plan : List ℕ
  pub left : ℕ
  pub turns : ℕ

abbrev pub seen : Run → Seen
seen run = record { plan = plan_of run; left = run.left; turns = run.turns }

-- a run that is held: it was not ended, so it may not be let go
abbrev pub IsHeld : Run → Type 0
IsHeld run = run.ended ≡ false

-- the radix whose stage is next: the last of those that are left
abbrev pub next_radix : Run → ℕ
next_radix run = slice_index (plan_of run) (run.left - 1)

-- the tones in each part of the blocks that this stage combines: as many as the product of the radices that are done
abbrev pub part_size : Run → ℕ
part_size run = size (drop run.left (plan_of run))

-- a call's answer, with what is seen of the run in it
abbrev pub as_seen : {E : Type 0} → Result Run E → Result Seen E
as_seen r = result_map_both seen (λ e. e) r

-- dealing under a plan answers a run:
abbrev pub begun : ℕ → List ℕ → ℕ → ℕ → Seen → Result Seen Fault
begun span rs buf work run =
    result_and (plans rs) (result_and (divided span (size rs)) (result_and (lent (size rs) buf work) (Ok run)))

-- one with every stage left,
abbrev pub fresh : List ℕ → Seen
fresh rs = record { plan = rs; left = length rs; turns = 0 }

-- or, with i stages after it, one whose last i radices are done, each of which turned every one of the N elements as often as it says
abbrev pub polled_run : List ℕ → ℕ → Seen
polled_run rs i =
    record { plan = rs; left = length rs - i; turns = size rs * radix_sum (drop (length rs - i) rs) }

-- that run again, from the numbers alone
abbrev pub resumed : List ℕ → ℕ → Result Seen Fault
resumed rs i = result_and (plans rs) (Ok (polled_run rs i))

-- a refusal hands the run back whole
abbrev pub handing_back : {X : Type 0} → Run → Result X Fault → Result X (Run × Fault)
handing_back run r = result_map_both (λ x. x) (λ fault. (run, fault)) r

-- what a stage asks for: a span and buffers for the run's length, and a stage that is left
abbrev pub ready : ℕ → Run → ℕ → ℕ → Result (Unit {0}) Fault
ready span run buf work =
    result_and (divided span (size (plan_of run))) (result_and (lent (size (plan_of run)) buf work) (cond (run.left == 0) (Err NoStage) (Ok tt)))

-- the run after its next stage, which turns each of the N elements as often as its radix says
abbrev pub onward : Run → Seen
onward run =
    record { plan = plan_of run; left = run.left - 1; turns = run.turns + size (plan_of run) * next_radix run }

-- a stage answers the run that goes on
abbrev pub stepped : ℕ → Run → ℕ → ℕ → Result Seen (Run × Fault)
stepped span run buf work = handing_back run (result_and (ready span run buf work) (Ok (onward run)))

-- the end of a run answers the turns that its stages made
abbrev pub finished : Run → Result ℕ (Run × Fault)
finished run = handing_back run (cond (run.left == 0) (Ok run.turns) (Err StagesLeft))

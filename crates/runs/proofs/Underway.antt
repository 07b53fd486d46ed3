-- What a run knows of its plan, and what its next stage makes of that.
use Rattle.std.proofs.Common.{◌≡◌, ℕ, ◌+◌, ◌-◌, ◌*◌, ◌%◌, ◌^◌, ◌<◌, ◌≤◌, List, drop, Ok, refl, ap, ◌∙◌, mul_comm, arith}
use Rattle.std.proofs.lemmas.Bool.Decides.{nat_tests}
use Rattle.arithmetic.specs.Laws.{Divides}
use Rattle.arithmetic.proofs.Divisors.{divides_trans}
use Rattle.plan.specs.Radices.{size, radix_sum, Plan}
use Rattle.plan.proofs.Sizes.{plan_drop}
use Rattle.plan.proofs.Sound.{checked_plan}
use Rattle.spectrum.specs.Granted.{scratch, plans, suited, stage_turned}
use Rattle.runs.specs.Runs.{plan_of, next_radix, Seen, ready, onward, stepped, finished}
use Rattle.runs.specs.declared.run.Run.{Run}
use Rattle.spectrum.proofs.Granting.{StageSuited}
use Rattle.spectrum.proofs.Schedule.{block_size, block_divides, turned_more, turned_fits}

pub run_plan : (run : Run) → Plan (plan_of run)
run_plan run = checked_plan run.plan

-- the next radix, and the turns that its stage made
module _ (run : Run) (low : 0 < run.left) (r : ℕ) (is : r ≡ next_radix run) where
  pub parts_more : run.part * r ≡ size (drop (run.left - 1) (plan_of run))
  parts_more =
      ap (λ x. run.part * x) is ∙ mul_comm run.part (next_radix run)
      ∙ block_size (run_plan run) run.left run.part low run.stages run.parts

  pub part_fits : run.part * r < 2 ^ 32
  part_fits = omega (arith, parts_more, (plan_drop (plan_of run) (run.left - 1) (run_plan run)).small)

  module _ (made : ℕ) (turned : made ≡ size (plan_of run) * r) where
    pub turns_more : run.turns + made ≡ size (plan_of run) * radix_sum (drop (run.left - 1) (plan_of run))
    turns_more =
        ap (λ t. run.turns + t) (turned ∙ ap (λ x. size (plan_of run) * x) is)
        ∙ turned_more (plan_of run) run.left (size (plan_of run)) run.turns low run.stages run.turned

    pub turns_fit : run.turns + made < 2 ^ 64
    turns_fit = omega (arith, turns_more, turned_fits (run_plan run) (run.left - 1) (size (plan_of run)) refl)

-- a stage that suits is answered
stage_answers : (span r len buf work : ℕ) → StageSuited span r len buf work → stage_turned span r len buf work ≡ Ok (buf * r)
stage_answers span r len buf work suits =
    let least = suits.least in
    let most = suits.most in
    let divides = suits.divides in
    let whole = suits.whole in
    let fits = suits.fits in
    let room = suits.room in
    grind (arith, nat_tests)

-- what is known where a stage is granted
pub record Ready (span : ℕ) (run : Run) (buf work : ℕ) : Type 0 where
  pub divides : Divides (size (plan_of run)) span
  pub whole : buf ≡ size (plan_of run)
  pub room : size (plan_of run) + scratch ≤ work
  pub some_left : 0 < run.left

module _ (span : ℕ) (run : Run) (buf work : ℕ) where
  pub ready_granted : Ok tt ≡ ready span run buf work → Ready span run buf work
  ready_granted is =
      record {
        divides = grind (arith, nat_tests);
        whole = grind (arith, nat_tests);
        room = grind (arith, nat_tests);
        some_left = grind (arith, nat_tests);
      }

  ready_is : Ready span run buf work → ready span run buf work ≡ Ok tt
  ready_is h =
      let divides = h.divides in
      let whole = h.whole in
      let room = h.room in
      let some_left = h.some_left in
      grind (arith, nat_tests)

  pub stepped_onward : (next : Seen) → Ready span run buf work → Ok next ≡ stepped span run buf work → next ≡ onward run
  stepped_onward next h is = let yes = ready_is h in cc

  -- its blocks and its memory then suit the stage of its next radix
  pub ready_suits : Ready span run buf work → StageSuited span (next_radix run) run.part buf work
  ready_suits h =
      let low = h.some_left in
      let plan = run_plan run in
      let small = plan.small in
      let each = plan.each (run.left - 1) (omega (arith, run.stages)) in
      let block = next_radix run * run.part in
      let whole : size (plan_of run) % block ≡ 0 = block_divides plan run.left run.part low run.stages run.parts in
      record {
        least = each.0;
        most = each.1;
        divides = divides_trans block (size (plan_of run)) span whole h.divides;
        whole = ap (λ n. n % block) h.whole ∙ whole;
        fits = omega (arith, h.whole);
        room = omega (arith, h.room);
      }

  pub stage_answered : Ready span run buf work → stage_turned span (next_radix run) run.part buf work ≡ Ok (buf * next_radix run)
  stage_answered h = stage_answers span (next_radix run) run.part buf work (ready_suits h)

-- the span and the lent memory suit a plan
pub record Suited (span : ℕ) (rs : List ℕ) (buf work : ℕ) : Type 0 where
  pub plan : plans rs ≡ Ok rs
  pub divides : Divides (size rs) span
  pub whole : buf ≡ size rs
  pub room : size rs + scratch ≤ work

module _ {X : Type 0} (span : ℕ) (rs : List ℕ) (buf work : ℕ) where
  pub suited_granted : (x answer : X) → Ok x ≡ suited span rs buf work answer → Suited span rs buf work
  suited_granted x answer is =
      record {
        plan = grind (arith, nat_tests);
        divides = grind (arith, nat_tests);
        whole = grind (arith, nat_tests);
        room = grind (arith, nat_tests);
      }

  pub suited_as : (x answer : X) → Ok x ≡ suited span rs buf work answer → x ≡ answer
  suited_as x answer is = grind (arith, nat_tests)

  -- whatever is asked for with such memory is answered
  pub suited_answers : (answer : X) → Suited span rs buf work → Ok answer ≡ suited span rs buf work answer
  suited_answers answer granted =
      let plan = granted.plan in
      let divides = granted.divides in
      let whole = granted.whole in
      let room = granted.room in
      grind (arith, nat_tests)

-- buffers of the same lengths suit too
pub suited_kept : {span : ℕ} {rs : List ℕ} {buf work : ℕ} (buf' work' : ℕ) → Suited span rs buf work → buf' ≡ buf → work' ≡ work → Suited span rs buf' work'
suited_kept buf' work' granted same_buf same_work =
    record {
      plan = granted.plan;
      divides = granted.divides;
      whole = same_buf ∙ granted.whole;
      room = omega (arith, granted.room);
    }

pub finished_turns : (run : Run) (turns : ℕ) → Ok turns ≡ finished run → turns ≡ run.turns
finished_turns run turns is = grind (arith, nat_tests)

-- A run that was dealt and taken on by some stages, with nothing else written to its buffer.
use Rattle.std.proofs.Common.{◌≡◌, ℕ, ◌+◌, ◌-◌, ◌*◌, ◌%◌, ◌<◌, ◌≤◌, min, List, [], length, get_or, take, drop, sym, ap, ◌∙◌, subst, zero-mul, arith}
use Rattle.std.proofs.lemmas.List.{drop_all, take_all}
use Rattle.arithmetic.specs.Meaning.{Meaning}
use Rattle.plan.specs.Radices.{size, radix_sum}
use Rattle.plan.specs.Dealing.{dealt}
use Rattle.plan.proofs.Sizes.{plan_size_positive}
use Rattle.spectra.specs.Tones.{tones}
use Rattle.spectra.specs.Stages.{staged, stages}
use Rattle.runs.specs.Runs.{plan_of, Seen, seen, next_radix, part_size, fresh, polled_run, onward}
use Rattle.spectra.specs.ByBlocks.{ByBlocks}
use Rattle.runs.specs.declared.run.Run.{Run}
use Rattle.spectra.proofs.Recursion.{stages_end, stages_more}
use Rattle.spectrum.proofs.Schedule.{at_drop_back}
use Rattle.spectra.proofs.Blockwise.{every_one, by_blocks}
use Rattle.runs.proofs.Underway.{run_plan, Ready, Suited}

-- i stages of a run under the radices rs were made of the list before
pub record Polled {A R : Type 0} (m : Meaning A R) (rs : List ℕ) (i : ℕ) (run : Run) (before after : List A) : Type 0 where
  pub plan : plan_of run ≡ rs
  pub left : run.left + i ≡ length rs
  pub so_far : after ≡ stages m (drop run.left rs) before

module _ {A R : Type 0} (m : Meaning A R) where
  pub polled_none : (rs : List ℕ) (run : Run) (before : List A) → seen run ≡ fresh rs → Polled m rs 0 run before before
  polled_none rs run before is =
      let left : run.left ≡ length rs = ap (λ s. s.left) is in
      let none : [] ≡ drop run.left rs = sym (drop_all run.left rs (omega arith)) in
      record {
        plan = ap (λ s. s.plan) is;
        left = omega arith;
        so_far = stages_end m before ∙ ap (λ x. stages m x before) none;
      }

  module _ {rs : List ℕ} {i : ℕ} {run : Run} {before after : List A} (done : Polled m rs i run before after) where
    length_of : size (plan_of run) ≡ size rs
    length_of = ap size done.plan

    pub polled_ready : (span buf work : ℕ) → Suited span rs buf work → i < length rs → Ready span run buf work
    polled_ready span buf work granted h =
        let whole = length_of in
        let left = done.left in
        record {
          divides = ap (λ n. span % n) whole ∙ granted.divides;
          whole = granted.whole ∙ sym whole;
          room = omega (arith, granted.room);
          some_left = omega arith;
        }

    pub polled_more : (next : Run) (later : List A) → i < length rs → seen next ≡ onward run → later ≡ staged m (next_radix run) (part_size run) after → Polled m rs (i + 1) next before later
    polled_more next later h on is =
        let k = run.left in
        let sum = done.left in
        let low : 0 < k = omega arith in
        let within : k ≤ length rs = omega arith in
        let left : next.left ≡ k - 1 = ap (λ s. s.left) on in
        record {
          plan = ap (λ s. s.plan) on ∙ done.plan;
          left = omega arith;
          so_far = is ∙ ap (λ x. staged m (get_or x (k - 1) 0) (size (drop k x)) after) done.plan
              ∙ ap (staged m (get_or rs (k - 1) 0) (size (drop k rs))) done.so_far
              ∙ stages_more m (get_or rs (k - 1) 0) (drop k rs) before ∙ at_drop_back (λ x. stages m x before) rs k 0 low within
              ∙ ap (λ j. stages m (drop j rs) before) (sym left);
        }

    pub polled_seen : (polls : ℕ) → i ≡ min polls (length rs) → seen run ≡ polled_run rs polls
    polled_seen polls times =
        let sum = done.left in
        let left : run.left ≡ length rs - polls = omega arith in
        let rest = λ (k : ℕ). radix_sum (drop k rs) in
        let turned : run.turns ≡ size rs * rest (length rs - polls) =
        run.turned ∙ ap (λ x. size (plan_of run) * radix_sum (drop run.left x)) done.plan ∙ ap (λ n. n * rest run.left) length_of
        ∙ ap (λ k. size rs * rest k) left in
        let as_seen : List ℕ → ℕ → ℕ → Seen = λ p l t. record { plan = p; left = l; turns = t } in
        ap (λ p. as_seen p run.left run.turns) done.plan ∙ ap (λ l. as_seen rs l run.turns) left
        ∙ ap (as_seen rs (length rs - polls)) turned

    pub polled_blocks : (a : List A) → length a ≡ size rs → before ≡ dealt m.zero rs a → ByBlocks m (take run.left rs) (drop run.left rs) a after
    polled_blocks a long dealing =
        let some = plan_size_positive (plan_of run) (run_plan run) in
        let pos : 0 < size rs = omega (arith, ap size done.plan) in
        let now : stages m (drop run.left rs) (dealt m.zero rs a) ≡ after = sym (done.so_far ∙ ap (stages m (drop run.left rs)) dealing) in
        subst (λ (x : List A). ByBlocks m (take run.left rs) (drop run.left rs) a x) now (by_blocks m run.left rs pos a long)

  -- where no stage is left, the one block is the buffer
  pub blocks_all : (rs : List ℕ) (a buf : List A) → length a ≡ size rs → length buf ≡ size rs → ByBlocks m [] rs a buf → buf ≡ tones m rs a
  blocks_all rs a buf long wide done =
      let n = size rs in
      sym (ap (λ x. take n (drop x buf)) (zero-mul n) ∙ take_all n buf (omega arith)) ∙ done.blocks 0 (omega arith)
      ∙ ap (tones m rs) (every_one m.zero n a long)

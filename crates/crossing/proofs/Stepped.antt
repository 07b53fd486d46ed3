-- The stages of a run that is held as numbers, one after the other.
use Rattle.std.proofs.Common.{◌≡◌, ℕ, zero, suc, ◌-◌, ◌<◌, ◌≤◌, List, [], length, get_or, take, drop, sym, ap, ◌∙◌, subst, arith}
use Rattle.std.proofs.lemmas.List.{drop_all}
use Rattle.arithmetic.specs.Meaning.{Meaning}
use Rattle.plan.specs.Dealing.{dealt}
use Rattle.plan.specs.Radices.{size}
use Rattle.plan.proofs.Sizes.{plan_size_positive}
use Rattle.spectra.specs.ByBlocks.{ByBlocks}
use Rattle.spectra.specs.Stages.{staged, stages}
use Rattle.spectra.proofs.Blockwise.{by_blocks}
use Rattle.spectra.proofs.Recursion.{stages_end, stages_more}
use Rattle.spectrum.proofs.Schedule.{at_drop_back}
use Rattle.crossing.specs.Runs.{left, after_stages, RunsStand}

module _ {A R : Type 0} (m : Meaning A R) where
  stepped : (rs : List ℕ) (i : ℕ) (buf : List A) → i ≤ length rs → after_stages m rs i buf ≡ stages m (drop (left rs i) rs) buf
  stepped rs zero buf h =
      let none : [] ≡ drop (length rs - 0) rs = sym (drop_all (length rs - 0) rs (omega arith)) in
      stages_end m buf ∙ ap (λ x. stages m x buf) none
  stepped rs (suc i) buf h =
      let k = length rs - i in
      let low : 0 < k = omega arith in
      let within : k ≤ length rs = omega arith in
      let back : k - 1 ≡ length rs - suc i = omega arith in
      ap (staged m (get_or rs (k - 1) 0) (size (drop k rs))) (stepped rs i buf (omega arith))
      ∙ stages_more m (get_or rs (k - 1) 0) (drop k rs) buf ∙ at_drop_back (λ x. stages m x buf) rs k 0 low within
      ∙ ap (λ j. stages m (drop j rs) buf) back

  pub stepped_blocks : RunsStand m
  stepped_blocks rs a i plan long h =
      subst (λ (x : List A). ByBlocks m (take (left rs i) rs) (drop (left rs i) rs) a x) (sym (stepped rs i (dealt m.zero rs a) h))
      (by_blocks m (left rs i) rs (plan_size_positive rs plan) a long)

use Rattle.std.proofs.Common.{◌≡◌, ◌*◌, [], length, drop, sym, ap, ◌∙◌, mul-zero, arith}
use Rattle.std.proofs.lemmas.List.{drop_all}
use Rattle.plan.specs.Radices.{size, radix_sum}
use Rattle.plan.specs.Planned.{radices_of}
use Rattle.runs.proofs.run.Run.begin.Goals as goal

pub invariant_of-result : goal.invariant_of-result
invariant_of-result c =
    let rs = radices_of c.args.plan in
    let n = length c.radices.result.now in
    let all : n ≡ length rs = ap length c.radices.ensures.answer in
    let none : [] ≡ drop n rs = sym (drop_all n rs (omega arith)) in
    record {
      stages = omega arith;
      parts = ap size none;
      turned = sym (mul-zero (size rs)) ∙ ap (λ x. size rs * radix_sum x) none;
    }

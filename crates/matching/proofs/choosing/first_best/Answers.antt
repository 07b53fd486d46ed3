use Rattle.std.proofs.Common.{◌∙◌, w64, SFits, rules}
use Rattle.std.proofs.lemmas.Int.{to_z-of_z}
use Rattle.matching.proofs.Best.{largest_one, largest_takes, largest_keeps}
use Rattle.matching.proofs.choosing.first_best.Goals as goal
use Rattle.matching.proofs.choosing.first_best.Goals.{then-next-most, else-next-most}

pub loop-place-init : goal.loop-place-init
loop-place-init g c =
    λ f says.
    let fits : SFits w64 c.value-most.result = search rules in
    largest_one f _ (to_z-of_z w64 c.value-most.result fits ∙ says 0 _ c.requires.some c.value-most.ensures)

pub loop-place-preserved : goal.loop-place-preserved
loop-place-preserved g c =
    λ f says.
    let fits : SFits w64 c.value-next.result = search rules in
    let here = to_z-of_z w64 c.value-next.result fits ∙ says c.loop-place.place _ c.loop-place-test.true c.value-next.ensures in
    let so_far = c.loop-place.invariant f says in
    elim c.if-next-most.branch [
      | then-next-most w ↦ rw (w.best-is, w.most-is) (largest_takes f _ _ _ _ so_far here w.if-next-most.true)
      | else-next-most w ↦ rw (w.best-is, w.most-is) (largest_keeps f _ _ _ _ so_far here w.if-next-most.false)
    ]

use Rattle.std.proofs.Common.{◌≡◌, ◌≤◌, drop}
use Rattle.plan.specs.Radices.{largest_size}
use Rattle.plan.specs.Planned.{product}
use Rattle.plan.proofs.checked.product.Given as goal

abbrev pub invariant-loop-i : goal.invariant-loop-i
invariant-loop-i l = (product 1 0 l.radices ≡ product l.len l.i (drop l.i l.radices)) × (l.len ≤ largest_size)

use Rattle.std.proofs.Common.{◌≡◌, ℕ, ◌<◌, get_or}
use Rattle.plan.specs.Dealing.{place}
use Rattle.plan.specs.Planned.{radices_of}
use Rattle.spectrum.proofs.suited.Suited.scatter.Given as goal

abbrev pub invariant-loop-x : goal.invariant-loop-x
invariant-loop-x g l =
    let zero = g.X.Arithmetic.meaning.zero in
    let rs = radices_of l.self.plan in
    (l.at ≡ place rs l.x-index)
    × (l.at < l.n)
    × ((k : ℕ) → k < l.x-index → get_or l.out (place rs k) zero ≡ get_or l.samples k zero)

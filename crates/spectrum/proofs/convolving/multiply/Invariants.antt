use Rattle.std.proofs.Common.{◌≡◌, ℕ, ◌<◌, ◌≤◌, get_or}
use Rattle.spectrum.proofs.convolving.multiply.Given as goal

abbrev pub invariant-loop-k : goal.invariant-loop-k
invariant-loop-k g l =
    let m = g.X.Arithmetic.meaning in
    ((j : ℕ) → j < l.k → get_or l.tones j m.zero ≡ m.product (get_or l.initial.tones j m.zero) (get_or l.others j m.zero))
    × ((j : ℕ) → l.k ≤ j → get_or l.tones j m.zero ≡ get_or l.initial.tones j m.zero)

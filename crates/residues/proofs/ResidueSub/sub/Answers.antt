use Rattle.std.proofs.Common.{◌+◌, ◌-◌, ◌%◌, sym, ap, ◌∙◌}
use Rattle.std.proofs.Math.Nat.{mod-eq_of_lt}
use Rattle.residues.proofs.ResidueSub.sub.Goals as goal

pub returns : goal.returns
returns g c =
    let m = g.row.M in
    c.plus.ensures ∙ ap (λ x. (c.args.self.word + (m - x)) % m) (sym (mod-eq_of_lt c.args.other.below))

use Rattle.std.proofs.Common.{sym, ◌∙◌, arith}
use Rattle.std.proofs.Math.Nat.{mod-eq_of_lt, mod-eq-sub-mod}
use Rattle.residues.proofs.Residue.plus.Goals.{then-sum-m, else-sum-m}
use Rattle.residues.proofs.Residue.plus.Goals as goal

pub returns : goal.returns
returns g c =
    let below = c.args.self.below in
    let most = c.requires in
    elim c.if-sum-m.branch [
      | then-sum-m w ↦ w.word-is ∙ sym (mod-eq_of_lt w.if-sum-m.true)
      | else-sum-m w ↦ w.word-is ∙ sym (mod-eq-sub-mod w.if-sum-m.false ∙ mod-eq_of_lt (omega arith))
    ]

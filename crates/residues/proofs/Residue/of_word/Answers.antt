use Rattle.std.proofs.Common.{sym, ◌∙◌}
use Rattle.std.proofs.Math.Nat.{mod-eq_of_lt}
use Rattle.residues.proofs.Residue.of_word.Goals.{then-n, else-n}
use Rattle.residues.proofs.Residue.of_word.Goals as goal

pub returns : goal.returns
returns g c = elim c.if-n.branch [ then-n w ↦ w.left-is ∙ sym (mod-eq_of_lt w.if-n.true) | else-n w ↦ w.left-is ]

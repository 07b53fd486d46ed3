-- Samples that were dealt, and then taken through every stage, are their tones.
use Rattle.std.proofs.Common.{◌≡◌, ℕ, List, length, ap, ◌∙◌}
use Rattle.arithmetic.specs.Meaning.{Meaning}
use Rattle.plan.specs.Radices.{size, Each}
use Rattle.plan.specs.Dealing.{dealt}
use Rattle.plan.proofs.Sizes.{size_positive}
use Rattle.spectra.specs.Tones.{tones}
use Rattle.spectra.specs.Stages.{stages}
use Rattle.spectra.proofs.Recursion.{stages_dealt}

pub toned : {A R : Type 0} (m : Meaning A R) (rs : List ℕ) (a : List A) {xs ys : List A} → Each rs → length a ≡ size rs → xs ≡ dealt m.zero rs a → ys ≡ stages m rs xs → ys ≡ tones m rs a
toned m rs a each long laid done =
    done ∙ ap (stages m rs) laid ∙ stages_dealt m rs (size_positive rs each) a long

use Rattle.std.proofs.Common.{refl}
use Rattle.arithmetic.specs.Series.{series}
use Rattle.spectra.specs.Moves.{shifted}
use Rattle.spectra.specs.Tones.{tone, combine, tones}
use Rattle.cells.specs.Cells.{tones_edited, tones_shifted}
use Rattle.play.proofs.worked.worked_case_stands.Goals as goal

pub returns : goal.returns
unfolding series shifted tone combine tones tones_edited tones_shifted
returns c = record { answer = record { opened = refl; edited = refl; shifted = refl } }

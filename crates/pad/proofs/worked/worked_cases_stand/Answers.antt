use Rattle.std.proofs.Common.{refl}
use Rattle.std.specs.Int.{int_wrap}
use Rattle.arithmetic.specs.Series.{series}
use Rattle.fixed.specs.Rounding.{rounded}
use Rattle.plan.specs.Dealing.{dealt}
use Rattle.quarter.specs.Table.{quarter_table}
use Rattle.spectra.specs.Tones.{tone, combine, tones}
use Rattle.stroke.specs.Contents.{beyond_from}
use Rattle.pad.specs.Files.{file_spectrum}
use Rattle.pad.proofs.worked.worked_cases_stand.Goals as goal

pub returns : goal.returns
unfolding int_wrap series rounded dealt quarter_table tone combine tones beyond_from file_spectrum
returns c = record {
  answer = record {
    deal_by_2_3 = refl;
    deal_by_3_2 = refl;
    turns_at_512 = refl;
    entry_64 = refl;
    turn_by_64 = refl;
    tones_of_four = refl;
    tones_of_four_by_two = refl;
    spectrum_of_four = refl;
  };
}

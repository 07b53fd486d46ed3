use Rattle.spectra.proofs.SpectraLaws.{spectra_laws}
use Rattle.cells.proofs.SheetLaws.{sheet_laws}
use Rattle.distance.proofs.Distance.{tones_are_near_sums}
use Rattle.agreement.proofs.Opened.{opened_follows}
use Rattle.agreement.proofs.agreement.Goals as goal

pub returns : goal.returns
returns g c =
    let laws = g.met.X.Arithmetic.lawful in
    let spectra = spectra_laws laws in
    let sheets = sheet_laws laws in
    record {
      answer = record {
        spectra = λ full. record {
          agree = spectra.agree (laws.full_is_exact full);
          restore = spectra.restore full;
          multiply = spectra.multiply full;
          convolve = spectra.convolve full;
        };
        sheets = λ full. record {
          run = opened_follows g.X.Arithmetic.meaning (sheets.opens (laws.full_is_exact full)) (sheets.run (laws.full_is_exact full));
          call = sheets.call (laws.full_is_exact full);
        };
        fixed = tones_are_near_sums;
      };
    }

use Rattle.cells.proofs.SheetLaws.{sheet_laws}
use Rattle.cells.proofs.theorems.sheets_stand.Goals as goal

pub returns : goal.returns
returns g c = record { answer = sheet_laws g.met.X.Arithmetic.lawful }

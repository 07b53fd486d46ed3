use Rattle.writing.proofs.WritesBack.{granted_as_written}
use Rattle.writing.proofs.writing_stands.Goals as goal

pub returns : goal.returns
returns c = record { granted = granted_as_written }

use Rattle.stroke.proofs.Granted.{granted}
use Rattle.stroke.proofs.ReadsBack.{reads_back}
use Rattle.stroke.proofs.FirstNamed.{first_named}
use Rattle.stroke.proofs.format_stands.Goals as goal

pub returns : goal.returns
returns c = record { granted = granted; back = reads_back; first = first_named }

use Rattle.casework.specs.Most.{most_of_file}
use Rattle.casework.proofs.Limits.{limited_into}
use Rattle.casework.proofs.reading.file_bytes.Goals as goal

pub returns : goal.returns
returns g c = record { bytes = limited_into g.R.Read.remaining c.take.result c.args.file most_of_file _ _ c.take.ensures.limit c.take.ensures.inner c.new-bytes.ensures.items c.in_ok-read_to_end.ensures.bytes }

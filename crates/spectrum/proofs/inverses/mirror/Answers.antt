use Rattle.spectra.proofs.Mirroring.{mirrored_none, mirrored_in_place}
use Rattle.spectrum.proofs.inverses.mirror.Goals as goal

pub returns-in_default : goal.returns-in_default
returns-in_default g c = record { after = mirrored_none _ _ c.in_default.len_below }

pub returns-in-len1-up : goal.returns-in-len1-up
returns-in-len1-up g c = record { after = mirrored_in_place _ _ _ c.in-len1-up.len_at_least c.reverse.ensures.after }

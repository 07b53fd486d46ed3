use Rattle.std.proofs.Common.{arith}
use Rattle.spectra.proofs.Circle.{mod_below_span, mod_past_span}
use Rattle.spectrum.proofs.circle.onward.Goals as goal

pub returns-then-next-span : goal.returns-then-next-span
returns-then-next-span c = record { answer = mod_below_span _ _ (omega arith) }

pub returns-else-next-span : goal.returns-else-next-span
returns-else-next-span c = record { answer = mod_past_span _ _ (omega arith) (omega arith) }

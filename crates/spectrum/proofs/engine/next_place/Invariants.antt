use Rattle.spectra.proofs.Dealing.{Carried}
use Rattle.spectrum.proofs.engine.next_place.Given as goal

abbrev pub invariant-loop-r : goal.invariant-loop-r
invariant-loop-r l = Carried l.radices l.initial.at l.r-index l.block l.at

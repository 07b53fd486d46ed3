-- The laws of spectra, over any lawful arithmetic.
use Rattle.arithmetic.specs.Meaning.{Meaning}
use Rattle.arithmetic.specs.Laws.{Lawful}
use Rattle.arithmetic.proofs.Ladder.{exact_laws, full_laws}
use Rattle.spectra.specs.SpectraLaws.{SpectraLaws}
use Rattle.spectra.proofs.DefiningSums.{all_plans_agree}
use Rattle.spectra.proofs.Restoring.{inverse_restores}
use Rattle.spectra.proofs.SpectraProducts.{product_is_convolution, convolution_by_spectra}

pub spectra_laws : {A R : Type 0} {m : Meaning A R} → Lawful m → SpectraLaws m
spectra_laws law = record {
  agree = λ is. all_plans_agree (exact_laws law is);
  restore = λ is. inverse_restores (full_laws law is);
  multiply = λ is. product_is_convolution (full_laws law is);
  convolve = λ is. convolution_by_spectra (full_laws law is);
}

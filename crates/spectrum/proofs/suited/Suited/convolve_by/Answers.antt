use Rattle.std.proofs.Common.{◌≡◌, ◌-◌, ◌≤◌, ◌++◌, length, take, replicate, sym, ap, ◌∙◌, arith}
use borrow.Rule.Slice.PartMut.{put_mid, post_of, same_len_mid}
use Rattle.arithmetic.specs.Laws.{Divides}
use Rattle.arithmetic.proofs.Ladder.{full_laws}
use Rattle.plan.specs.Planned.{radices_of}
use Rattle.spectra.specs.Tones.{tones}
use Rattle.spectra.specs.Spectra.{spectrum, inverse, spectra_product, convolution}
use Rattle.spectra.proofs.DefiningSums.{all_plans_agree, spectrum_is_tones}
use Rattle.spectra.proofs.SpectraProducts.{convolution_by_spectra, product_is_convolution}
use Rattle.spectra.proofs.Waiting.{waits, waiting_length}
use Rattle.spectrum.proofs.suited.Suited.convolve_by.Goals as goal

pub returns : goal.returns
returns g c =
    let m = g.X.Arithmetic.meaning in
    let rs = radices_of c.args.self.now.plan in
    let a = c.args.a.now in
    let b = c.args.b.now in
    let n = c.len-n.result in
    let law = full_laws g.met.X.Arithmetic.lawful c.requires.full in
    let agree = all_plans_agree law.exactly rs in
    let z : Divides (length a) m.span = rw c.requires.first c.args.self.now.divides in
    let front = c.copy_from_slice.new.self in
    let work = c.tones_into.new.scratch in
    let held = front ++ post_of 0 (n - 0) work in
    let written = c.tones_into-2.new.scratch in
    let long : length front ≡ n = ap length c.copy_from_slice.ensures.after ∙ c.tones_into.auto.out ∙ c.requires.out ∙ sym c.len-n.ensures.answer in
    let waiting : take (n - 0) (put_mid n (length held - n) held written) ≡ tones m rs b = waits n work front long (length held - n) written ∙ c.copy_from_slice.ensures.after ∙ c.tones_into.ensures.after in
    let product : c.multiply.new.tones ≡ spectra_product m (tones m rs a) (tones m rs b) =
    c.multiply.ensures.after ∙ ap (spectra_product m c.tones_into-2.new.out) waiting
    ∙ ap (λ x. spectra_product m x (tones m rs b)) c.tones_into-2.ensures.after in
    let room : n ≤ length work = omega arith in
    let z-b : Divides (length b) m.span = rw c.requires.second c.args.self.now.divides in
    let many : length b ≡ length a = c.requires.second ∙ sym c.requires.first in
    let convolved : c.restore.new.buf ≡ convolution m a b =
    c.restore.ensures.after ∙ ap (inverse m) product
    ∙ convolution_by_spectra law a b (tones m rs a) (tones m rs b) z many (agree a c.args.self.now.divides c.requires.first) (agree b c.args.self.now.divides c.requires.second) in
    record {
      after = convolved;
      spectra = ap (spectrum m) convolved
          ∙ sym (product_is_convolution law a b (spectrum m a) (spectrum m b) z many (spectrum_is_tones law.exactly a z) (spectrum_is_tones law.exactly b z-b));
      work = c.restore.ensures.work
          ∙ ap (λ x. replicate x m.zero) (same_len_mid n (length held - n) held written c.tones_into-2.auto.scratch ∙ waiting_length n work front long room ∙ c.tones_into.auto.scratch);
    }

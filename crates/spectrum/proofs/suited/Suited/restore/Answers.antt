use Rattle.std.proofs.Common.{◌≡◌, map, length, sym, ap, ◌∙◌, rules}
use Rattle.arithmetic.specs.Laws.{Divides}
use Rattle.arithmetic.proofs.Ladder.{full_laws}
use Rattle.plan.specs.Radices.{size}
use Rattle.plan.specs.Planned.{radices_of}
use Rattle.spectra.specs.Spectra.{inverse}
use Rattle.spectra.specs.Moves.{mirrored}
use Rattle.spectra.proofs.Restoring.{inverse_by_tones, inverse_restores}
use Rattle.spectra.proofs.SpectraByPlace.{as_many_tones}
use Rattle.spectrum.proofs.Toned.{toned}
use Rattle.spectrum.proofs.suited.Suited.restore.Goals as goal

pub returns : goal.returns
returns g c =
    let m = g.X.Arithmetic.meaning in
    let rs = radices_of c.args.self.now.plan in
    let buf = c.args.buf.now in
    let law = full_laws g.met.X.Arithmetic.lawful c.requires.full in
    let made = toned m _ _ c.args.self.now.plan.each c.requires.whole c.deal.ensures.after c.stages.ensures.after in
    let many : length c.mirror.new.buf ≡ size rs =
    c.mirror.auto.buf ∙ c.stages.auto.buf ∙ c.deal.auto.buf ∙ c.requires.whole in
    let inverted : c.part_each.new.buf ≡ inverse m buf =
    c.part_each.ensures.after
    ∙ ap (λ n. map (λ x. m.part x n) c.mirror.new.buf) many
    ∙ ap (map (λ x. m.part x (size rs))) (c.mirror.ensures.after ∙ ap (mirrored m.zero) made)
    ∙ inverse_by_tones law.exactly rs buf c.args.self.now.divides c.requires.whole in
    record {
      after = inverted;
      restores = λ a is.
          let as_many : length a ≡ size rs = sym (as_many_tones m a buf is) ∙ c.requires.whole in
          let z : Divides (length a) m.span = rw as_many c.args.self.now.divides in
          inverted ∙ inverse_restores law a buf z is;
      work = search rules;
    }

-- Angles that go on by k of the n parts of a circle from turn to turn.
use Rattle.std.proofs.Common.{◌≡◌, ℕ, ◌+◌, ◌*◌, ◌/◌, ◌%◌, ap, ◌∙◌}
use Rattle.arithmetic.specs.Meaning.{Meaning}
use Rattle.arithmetic.specs.Laws.{Every, Divides}
use Rattle.arithmetic.proofs.Divisors.{divisor_above_zero}
use Rattle.spectra.proofs.Circle.{exponent, exponent_none, exponent_more}
use Rattle.spectrum.specs.declared.circle.Angle.{Angle}

-- the angle of turn q
pub record Walked (span n k q : ℕ) (angle : Angle) : Type 0 where
  pub here : angle.at ≡ exponent span n k q
  pub step : angle.step ≡ k * (span / n)
  pub circle : angle.span ≡ span

pub walked_none : {span n k : ℕ} {angle : Angle} → angle.at ≡ 0 → angle.step ≡ k * (span / n) → angle.span ≡ span → Walked span n k 0 angle
walked_none {span} {n} {k} first step circle = record { here = first ∙ exponent_none span n k; step = step; circle = circle }

pub walked_more : {n k : ℕ} {A R : Type 0} {m : Meaning A R} → Every m → Divides n m.span → (q : ℕ) {angle next : Angle} → Walked m.span n k q angle →
    next.at ≡ (angle.at + angle.step) % angle.span → next.step ≡ angle.step → next.span ≡ angle.span → Walked m.span n k (q + 1) next
walked_more {n} {k} {m = m} laws z q {angle} {next} so on step circle =
    let pos = laws.span_above_zero in
    let on' : next.at ≡ (exponent m.span n k q + k * (m.span / n)) % m.span = on ∙ ap (λ x. (x + angle.step) % angle.span) so.here ∙ ap (λ x. (exponent m.span n k q + x) % angle.span) so.step ∙ ap (λ x. (exponent m.span n k q + k * (m.span / n)) % x) so.circle in
    record {
      here = on' ∙ exponent_more m.span n k pos z q (divisor_above_zero n m.span pos z);
      step = step ∙ so.step;
      circle = circle ∙ so.circle;
    }

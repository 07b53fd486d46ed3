-- Lent strokes: their samples as tuples, and why a stroke that is too long is refused.
use Rattle.std.proofs.Common.{◌≡◌, ℕ, ◌<◌, ◌≤◌, Bool, true, false, cond, not, ◌||◌, eqb, ltb, ◌⊎◌, List, length, Ok, Err, Result, sym, refl, ap, inl, inr, arith}
use Rattle.std.proofs.lemmas.Bool.Decides.{nat_tests}
use Rattle.std.specs.Result.{result_map_both}
use Rattle.writing.specs.declared.lent.LentFault.{LentFault}
use Rattle.writing.specs.declared.lent.LentFault.TheVariants.{Length}
use Rattle.stroke.specs.Contents.{Contents, most_samples}
use Rattle.writing.specs.Lending.{as_many, sized}
use Rattle.writing.specs.Written.{written, after_writing}
use Rattle.refusal.specs.declared.Fault.TheVariants.{Lent}
use Rattle.handover.specs.Lending.{writing}

pub sized_long : (c : Contents) → most_samples < length c.path → sized c ≡ Err Length
sized_long c long = grind (arith, nat_tests)

pub sized_few : (c : Contents) → sized c ≡ Ok tt → length c.path ≤ most_samples
sized_few c is = grind (arith, nat_tests)

-- two tests that refuse alike
tested : (p q : Bool) → Result (Unit {0}) LentFault
tested p q = cond p (Err Length) (cond q (Err Length) (Ok tt))

either : (p q : Bool) → (tested p q ≡ Ok tt) ⊎ (tested p q ≡ Err Length)
unfolding tested
either true q = inr refl
either false true = inr refl
either false false = inl refl

-- one is refused for its length or not at all
pub sized_either : (c : Contents) → (sized c ≡ Ok tt) ⊎ (sized c ≡ Err Length)
unfolding tested
sized_either c = either (eqb (length c.path) 0 || ltb most_samples (length c.path)) (not (as_many c.pressure (length c.path)))

module _ (c : Contents) (room : ℕ) (long : most_samples < length c.path) where
  pub too_long : written c room ≡ Err Length
  too_long = let is = sized_long c long in cc

  pub writing_refused : Err (Lent Length) ≡ writing c room
  writing_refused = ap (result_map_both (λ len. len) Lent) (sym too_long)

pub nothing_written : (c : Contents) (out : List ℕ) → most_samples < length c.path → out ≡ after_writing c out
nothing_written c out long = let is = too_long c (length out) long in cc

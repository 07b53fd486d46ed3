-- What the fixed arithmetic shows: every law of one that is neither exact nor full.
use Rattle.std.specs.Prelude.{refl}
use Rattle.std.proofs.Common.{ap, lit<}
use Rattle.std.proofs.lemmas.Bool.{false≢true}
use Rattle.arithmetic.specs.Laws.{Lawful}
use Rattle.quarter.proofs.Symmetry.{entry_round}
use Rattle.fixed.specs.Turning.{turned}
use Rattle.fixed.specs.Pairs.{fixed}

pub lawful : Lawful fixed
lawful = record {
  every = record {
    span_above_zero = lit< tt;
    span_fits = lit< tt;
    value_value = λ a. refl;
    zero_reduced = refl;
    sum_reduced = λ a b. refl;
    difference_reduced = λ a b. refl;
    turn_reduced = λ a e. refl;
    product_reduced = λ a b. refl;
    part_reduced = λ a n. refl;
    sum_of_values = λ a b. refl;
    difference_of_values = λ a b. refl;
    turn_of_value = λ a e. refl;
    product_of_values = λ a b. refl;
    part_of_value = λ a n. refl;
    turn_by_remainder = λ a e. ap (turned a) (entry_round e);
  };
  when_exact = λ exact. absurd (false≢true exact);
  when_full = λ full. absurd (false≢true full);
  full_is_exact = λ full. full;
  when_not_full = λ _. record { no_product = λ a b. refl; no_part = λ a n. refl };
}

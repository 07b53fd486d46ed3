use Rattle.std.proofs.Common.{◌%◌, ◌^◌, nat_abs, sym, ap, ◌∙◌, w32, w64, to_z, of_z}
use Rattle.std.specs.Int.{int_wrap}
use Rattle.std.proofs.lemmas.Int.{to_z-of_z}
use Rattle.std.proofs.lemmas.Nat.{and_mask}
use Rattle.fixed.proofs.Words.{low_bits}
use Rattle.fixed.proofs.into_range.Goals as goal

pub returns : goal.returns
unfolding int_wrap
returns c =
    record {
      answer =
          to_z-of_z w32 _ (record { sfits = c.cast_signed.type_inv }) ∙ c.cast_signed.ensures
          ∙ ap (to_z w32) (and_mask c.cast_unsigned.result 32 ∙ ap (λ n. n % 2 ^ 32) (c.cast_unsigned.ensures ∙ ap (of_z w64) (to_z-of_z w64 _ c.ranges.z)))
          ∙ ap (λ n. to_z w32 (nat_abs n)) (sym (low_bits c.args.z c.ranges.z));
    }

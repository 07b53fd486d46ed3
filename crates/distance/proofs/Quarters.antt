-- From the first quarter of the table to all of it.
use Rattle.std.proofs.Common.{◌≡◌, ℕ, zero, suc, ◌+◌, ◌*◌, ◌/◌, ◌%◌, ◌<◌, get_or, ℤ, pos, sym, ap, ◌∙◌, subst, arith}
use Rattle.algebra.proofs.Sizes.{nat_abs_neg}
use Rattle.quarter.specs.Entries.{circle, quarter, entry, onward, quarters_onward, Short}
use Rattle.quarter.specs.Table.{quarter_table}
use Rattle.quarter.proofs.Sizes.{table_short}
use Rattle.quarter.proofs.Symmetry.{entry_onward, entry_round}

-- what holds of the first quarter, and a quarter further wherever it holds, holds of every entry
pub by_quarters : (P : ℕ → Type 0) → ((e : ℕ) → e < quarter → P e) → ((e : ℕ) → P e → P (e + quarter)) → (e : ℕ) → P e
by_quarters P first further e = subst P whole (quarters_on (e / quarter))
  where
    whole : e % quarter + quarter * (e / quarter) ≡ e
    whole = omega arith

    quarters_on : (n : ℕ) → P (e % quarter + quarter * n)
    quarters_on zero = let same : e % quarter ≡ e % quarter + quarter * 0 = omega arith in subst P same (first (e % quarter) (omega arith))
    quarters_on (suc n) =
        let same : e % quarter + quarter * n + quarter ≡ e % quarter + quarter * suc n = omega arith in
        subst P same (further (e % quarter + quarter * n) (quarters_on n))

short_onward : (d : ℤ × ℤ) → Short d → Short (onward d)
short_onward d h = let same = nat_abs_neg d.1 in let long = h.s in record { c = omega arith; s = h.c }

within_first : (e : ℕ) → e < quarter → entry e ≡ get_or quarter_table e (pos 0, pos 0)
within_first e h =
    let none : e / quarter % 4 ≡ 0 = omega arith in
    let itself : e % quarter ≡ e = omega arith in
    λ i. quarters_onward (none i) (get_or quarter_table (itself i) (pos 0, pos 0))

pub entry_short : (e : ℕ) → Short (entry e)
entry_short =
    by_quarters (λ e. Short (entry e))
    (λ e h. subst Short (sym (within_first e h)) (table_short e (omega arith)))
    (λ e h. subst Short (sym (entry_onward e)) (short_onward (entry e) h))

-- n full circles further stands the same
pub entry_same : (d e n : ℕ) → d + circle * n ≡ e → entry d ≡ entry e
entry_same d e n further = let rest : d % circle ≡ e % circle = omega arith in sym (entry_round d) ∙ ap entry rest ∙ entry_round e

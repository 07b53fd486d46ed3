-- A quarter further is a quarter further round the circle, and the circle closes.
use Rattle.std.proofs.Common.{◌≡◌, ℕ, zero, suc, ◌+◌, ◌/◌, ◌%◌, ◌<◌, get_or, ℤ, pos, sym, refl, ◌∙◌, arith}
use lib.IntN.{neg_ℤ-neg_ℤ}
use Rattle.quarter.specs.Table.{quarter_table}
use Rattle.quarter.specs.Entries.{circle, quarter, entry, onward, quarters_onward}

one_more : (q : ℕ) (p : ℤ × ℤ) → q < 4 → quarters_onward ((q + 1) % 4) p ≡ onward (quarters_onward q p)
one_more zero p h = refl
one_more (suc zero) p h = refl
one_more (suc (suc zero)) p h = refl
one_more (suc (suc (suc zero))) p h = sym (λ i. (neg_ℤ-neg_ℤ p.0 i, neg_ℤ-neg_ℤ p.1 i))
one_more (suc (suc (suc (suc q)))) p h = absurd (omega arith)

-- the pair at a place, some quarters on
at : ℕ → ℕ → ℤ × ℤ
at q place = quarters_onward q (get_or quarter_table place (pos 0, pos 0))

pub entry_onward : (j : ℕ) → entry (j + quarter) ≡ onward (entry j)
unfolding at
entry_onward j =
    let turns : (j + quarter) / quarter % 4 ≡ (j / quarter % 4 + 1) % 4 = omega arith in
    let place : (j + quarter) % quarter ≡ j % quarter = omega arith in
    (λ i. at (turns i) (place i)) ∙ one_more (j / quarter % 4) (get_or quarter_table (j % quarter) (pos 0, pos 0)) (omega arith)

pub entry_round : (e : ℕ) → entry (e % circle) ≡ entry e
unfolding at
entry_round e =
    let turns : e % circle / quarter % 4 ≡ e / quarter % 4 = omega arith in
    let place : e % circle % quarter ≡ e % quarter = omega arith in
    λ i. at (turns i) (place i)

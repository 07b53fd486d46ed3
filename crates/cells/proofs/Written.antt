-- A loop that writes one place after the other.
use Rattle.std.proofs.Common.{◌≡◌, ℕ, ◌+◌, ◌<◌, ◌≤◌, ◌≢◌, List, map, length, get_or, set, ◌∙◌, arith}
use Rattle.std.specs.List.{range_with_len}
use Rattle.std.proofs.lemmas.List.{get_or-set_other}
use Rattle.std.proofs.lemmas.List.Edits.{fill_by_more}
use Rattle.std.proofs.lemmas.List.FromFn.{fill_by_all}

-- the first k places hold f, and the others are as they were
pub record Written {A : Type 0} (d : A) (f : ℕ → A) (k : ℕ) (before after : List A) : Type 0 where
  pub made : (j : ℕ) → j < k → get_or after j d ≡ f j
  pub rest : (j : ℕ) → k ≤ j → get_or after j d ≡ get_or before j d

module _ {A : Type 0} {d : A} {f : ℕ → A} {before : List A} where
  pub written_more : (k : ℕ) (x : A) {after : List A} → Written d f k before after → k < length after → x ≡ f k → Written d f (k + 1) before (set after k x)
  written_more k x {after} so l is = record {
    made = rw is (fill_by_more f after k d l so.made);
    rest = λ j h. let other : j ≢ k = omega arith in get_or-set_other after k j x d other ∙ so.rest j (omega arith);
  }

  pub written_all : (n k : ℕ) {after : List A} → Written d f k before after → n ≡ k → length after ≡ n → after ≡ map f (range_with_len 0 n)
  written_all n k {after} so end long = fill_by_all f after n d long (λ j l. so.made j (omega arith))

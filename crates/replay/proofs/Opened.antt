-- The length that a sheet opened with.
use Rattle.std.proofs.Common.{◌≡◌, ℕ, List, Ok, Err, Result}
use Rattle.std.specs.Result.{result_and}
use Rattle.arithmetic.specs.Meaning.{Meaning}
use Rattle.refusal.specs.declared.Fault.{Fault}
use Rattle.plan.specs.Radices.{size}
use Rattle.cells.specs.Opening.{sized, roomy, opened}

answer_from : (s : Result ℕ Fault) (r : Result (Unit {0}) Fault) (n k : ℕ) → Ok n ≡ result_and s (result_and r (Ok k)) → n ≡ k
answer_from (Ok i) (Ok done) n k is = cc
answer_from (Ok i) (Err f) n k is = cc
answer_from (Err f) r n k is = cc

pub opened_length : {A R : Type 0} (m : Meaning A R) (rs : List ℕ) (len n work : ℕ) → Ok n ≡ opened m rs len work → n ≡ size rs
opened_length m rs len n work = answer_from (sized m rs len) (roomy (size rs) work) n (size rs)

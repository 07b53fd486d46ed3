-- What is told of a result, and the list of it that lies at the front of what was lent.
use Rattle.std.proofs.Common.{◌≡◌, ℕ, ◌-◌, List, ◌++◌, length, drop, IsErrAnd, Ok, Err, Result, sym, ap, ◌∙◌, arith}
use borrow.Rule.Slice.PartMut.{post_of}
use Rattle.std.specs.Result.{result_map_both}
use Rattle.refusal.specs.declared.Fault.{Fault}
use Rattle.crossing.specs.Answers.{in_front}

-- a refusal is told as it is
pub told : {X Y : Type 0} (g : X → Y) (s : Result X Fault) (f : Fault) → s ≡ Err f → (r : Result Y Fault) → IsErrAnd r (λ e. e ≡ f) → r ≡ result_map_both g (λ e. e) s
told g s f is (Ok x) by = absurd by
told g s f is (Err e) by = ap Err by ∙ ap (result_map_both g (λ e. e)) (sym is)

-- and leaves what was lent
pub stays : {X : Type 0} (s : Result (List X) Fault) (f : Fault) → s ≡ Err f → (before : List X) → before ≡ in_front s before
stays s f is before = ap (λ x. in_front x before) (sym is)

-- the list that was copied into the first part of what was lent
pub fronted : {X : Type 0} (s : Result (List X) Fault) (xs : List X) → s ≡ Ok xs → (count : ℕ) → count ≡ length xs → (part before : List X) → part ≡ xs → part ++ post_of 0 (count - 0) before ≡ in_front s before
fronted s xs is count counted part before filled =
    let same : count - 0 ≡ length xs = omega arith in
    ap (λ n. part ++ drop n before) same ∙ ap (λ x. x ++ drop (length xs) before) filled ∙ ap (λ x. in_front x before) (sym is)

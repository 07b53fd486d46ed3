-- A reader of so many bytes at most.
use Rattle.std.proofs.Common.{◌≡◌, ℕ, List, [], ◌++◌, take, IfSome, Some, None, Option, subst}
use Rattle.std.specs.Io.Take.{take_limit, take_inner, take_remaining}
use Rattle.std.specs.Option.{option_map}
use Rattle.std.specs.declared.io.traits.Take.{Take}

of_bytes : (known : Option (List ℕ)) (n : ℕ) (read : List ℕ) → IfSome (option_map (take n) known) (λ bs. read ≡ bs) → IfSome known (λ bs. read ≡ take n bs)
of_bytes None n read is = tt
of_bytes (Some bs) n read is = is

-- what it reads to its end is what the reader within gives first
pub limited : {R : Type 0} (remaining : R → Option (List ℕ)) (t : Take R) (file : R) (n : ℕ) (read : List ℕ) → take_limit t ≡ n → take_inner t ≡ file
    → IfSome (take_remaining remaining t) (λ bs. read ≡ bs) → IfSome (remaining file) (λ bs. read ≡ take n bs)
limited remaining t file n read long within is =
    of_bytes (remaining file) n read (subst (λ known. IfSome known (λ bs. read ≡ bs)) (λ i. option_map (take (long i)) (remaining (within i))) is)

-- the same into a list that was empty
pub limited_into : {R : Type 0} (remaining : R → Option (List ℕ)) (t : Take R) (file : R) (n : ℕ) (was read : List ℕ) → take_limit t ≡ n → take_inner t ≡ file → was ≡ []
    → IfSome (take_remaining remaining t) (λ bs. read ≡ was ++ bs) → IfSome (remaining file) (λ bs. read ≡ take n bs)
limited_into remaining t file n was read long within none is =
    limited remaining t file n read long within (subst (λ w. IfSome (take_remaining remaining t) (λ bs. read ≡ w ++ bs)) none is)

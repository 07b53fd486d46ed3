-- Which calls are granted, what they answer and what they leave: the lower number refuses first.
use Rattle.std.specs.Prelude.{ℕ, ◌+◌, ◌*◌, ◌%◌, ◌^◌, Bool, cond, List, [], ◌∷◌, length, replicate, is_ok, Ok, Err, Result, ◌==◌, nat_le}
use Rattle.std.specs.Result.{result_and, result_map_both}
use Rattle.arithmetic.specs.Meaning.{Meaning}
use Rattle.plan.specs.Radices.{size, turns}
use Rattle.plan.specs.Planned.{planned}
use Rattle.refusal.specs.declared.Fault.{Fault}
use Rattle.refusal.specs.declared.Fault.TheVariants.{Plan, Span, Unfit, Length, Work}

-- what a stage takes of the work beside the length: one element for each row of the largest radix
abbrev pub scratch : ℕ
scratch = 8

-- the length divides the span
abbrev pub divided : ℕ → ℕ → Result (Unit {0}) Fault
divided span n = cond (span % n == 0) (Ok tt) (Err (Span n))

-- the arithmetic has a product and a part
abbrev pub filled : Bool → Result (Unit {0}) Fault
filled full = cond full (Ok tt) (Err Unfit)

-- as many samples as the length
abbrev pub whole : ℕ → ℕ → Result (Unit {0}) Fault
whole n len = cond (len == n) (Ok tt) (Err Length)

-- the buffer is of the length, and the work is long enough
abbrev pub lent : ℕ → ℕ → ℕ → Result (Unit {0}) Fault
lent n buf work = cond (buf == n) (cond (nat_le (n + scratch) work) (Ok tt) (Err Work)) (Err Length)

-- the radices are a plan
abbrev pub plans : List ℕ → Result (List ℕ) Fault
plans rs = result_map_both (λ granted. granted) Plan (planned rs)

-- what a call answers under a plan whose length suits the span and the lent memory
abbrev pub suited : {X : Type 0} → ℕ → List ℕ → ℕ → ℕ → X → Result X Fault
suited span rs buf work answer =
    result_and (plans rs) (result_and (divided span (size rs)) (result_and (lent (size rs) buf work) (Ok answer)))

-- a transform answers the turns that it made
abbrev pub transformed : ℕ → List ℕ → ℕ → ℕ → Result ℕ Fault
transformed span rs buf work =
    result_and (plans rs) (result_and (divided span (size rs)) (result_and (lent (size rs) buf work) (Ok (turns rs))))

-- a buffer of whole blocks of n, and of less than 2^32 elements
abbrev pub in_blocks : ℕ → ℕ → Result (Unit {0}) Fault
in_blocks n buf = cond (buf % n == 0) (cond (nat_le (2 ^ 32) buf) (Err Length) (Ok tt)) (Err Length)

-- the stage of radix r, where the radices after it have the product len
abbrev pub stage_suited : ℕ → ℕ → ℕ → ℕ → ℕ → Result (Unit {0}) Fault
stage_suited span r len buf work =
    result_and (plans (r ∷ [])) (result_and (divided span (r * len)) (result_and (in_blocks (r * len) buf) (cond (nat_le scratch work) (Ok tt) (Err Work))))

-- it turns each element of the buffer as often as its radix says
abbrev pub stage_turned : ℕ → ℕ → ℕ → ℕ → ℕ → Result ℕ Fault
stage_turned span r len buf work = result_and (stage_suited span r len buf work) (Ok (buf * r))

-- an inverse of tones, over a full arithmetic
abbrev pub inverted : {A R : Type 0} → Meaning A R → List ℕ → ℕ → ℕ → Result (Unit {0}) Fault
inverted m rs buf work =
    result_and (plans rs) (result_and (divided m.span (size rs)) (result_and (filled m.full) (lent (size rs) buf work)))

-- a convolution of two lists of samples into a third
abbrev pub convolved : {A R : Type 0} → Meaning A R → List ℕ → ℕ → ℕ → ℕ → ℕ → Result (Unit {0}) Fault
convolved m rs a b out work =
    result_and (plans rs) (result_and (divided m.span (size rs)) (result_and (filled m.full) (result_and (whole (size rs) a) (result_and (whole (size rs) b) (lent (size rs) out work)))))

-- what a list becomes where the call is granted; a refusal leaves it
abbrev pub where_granted : {X Y E : Type 0} → Result Y E → List X → List X → List X
where_granted r new old = cond (is_ok r) new old

-- the work, which holds zeros after a granted call
abbrev pub cleared : {A R Y E : Type 0} → Meaning A R → Result Y E → List A → List A
cleared m r work = where_granted r (replicate (length work) m.zero) work

-- The tones of a list of samples, by the recursion over the radices of a plan.
use Rattle.std.specs.Prelude.{ℕ, ◌+◌, ◌*◌, ◌/◌, ◌%◌, List, [], ◌∷◌, map, slice_index_or}
use Rattle.std.specs.List.{range_with_len, flat_map}
use Rattle.arithmetic.specs.Meaning.{Meaning}
use Rattle.arithmetic.specs.Series.{series}
use Rattle.plan.specs.Radices.{size}
use Rattle.plan.specs.Dealing.{every}

-- what part q gives to tone k of a block of r parts with len tones each: its tone k mod len, turned by (q k mod N) M/N
abbrev pub term : {A R : Type 0} → Meaning A R → ℕ → ℕ → List A → ℕ → ℕ → A
term m r len block k q =
    m.turn (slice_index_or block (q * len + k % len) m.zero) (((q * k) % (r * len)) * (m.span / (r * len)))

-- tone k of a block, from the term of part 0 on and in order
unfoldable pub tone : {A R : Type 0} → Meaning A R → ℕ → ℕ → List A → ℕ → A
tone m r len block k = series m (term m r len block k) r

-- the tones of a block from those of its r parts, which stand one after the other
unfoldable pub combine : {A R : Type 0} → Meaning A R → ℕ → ℕ → List A → List A
combine m r len block = map (tone m r len block) (range_with_len 0 (r * len))

-- under the empty plan the tone is the sample; under one that begins with r, part q has the tones of samples q, q + r, ..
unfoldable pub tones : {A R : Type 0} → Meaning A R → List ℕ → List A → List A
tones m [] a = a
tones m (r ∷ rs) a = combine m r (size rs) (flat_map (λ q. tones m rs (every m.zero r (size rs) a q)) (range_with_len 0 r))

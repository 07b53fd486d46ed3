-- A stroke's samples, as they enter the arithmetic.
use Rattle.std.proofs.Common.{◌≡◌, ℕ, ◌<◌, ◌≤◌, ◌⊎◌, List, length, get_or, ℤ, pos, Option, Some, None, MatchOption, sym, ap, ◌∙◌, ⊎_elim, arith}
use Rattle.std.specs.List.{slice_get}
use Rattle.std.proofs.lemmas.List.{ext_get_or, get_or-map, get_or_past, length-map}
use Rattle.std.proofs.lemmas.Option.{slice_get-get_or, slice_get_past}
use Rattle.fixed.specs.declared.Fixed.{Fixed}
use Rattle.fixed.specs.Pairs.{origin, sampled, entered}

within_or_past : (i n : ℕ) → (i < n) ⊎ (n ≤ i)
within_or_past i n = grind arith

-- the sample that is there enters as itself
entered_there : (path : List (ℤ × ℤ)) (i : ℕ) (x y : ℤ) → slice_get path i ≡ Some (x, y) → sampled x y ≡ get_or (entered path) i origin
entered_there path i x y is = ⊎_elim
    (λ (within : i < length path).
    let here = slice_get-get_or path i (pos 0, pos 0) within in
    let at : (x, y) ≡ get_or path i (pos 0, pos 0) = cc in
    ap (λ (p : ℤ × ℤ). sampled p.0 p.1) at ∙ sym (get_or-map (λ p. sampled p.0 p.1) path i (pos 0, pos 0) origin within))
    (λ (past : length path ≤ i). let none = slice_get_past path i past in let z : ◌≡◌ {A = ℕ} 0 1 = cc in absurd (omega arith))
    (within_or_past i (length path))

-- past the last there is zero
entered_past : (path : List (ℤ × ℤ)) (i : ℕ) → slice_get path i ≡ None → origin ≡ get_or (entered path) i origin
entered_past path i is = ⊎_elim
    (λ (within : i < length path). let here = slice_get-get_or path i (pos 0, pos 0) within in let z : ◌≡◌ {A = ℕ} 0 1 = cc in absurd (omega arith))
    (λ (past : length path ≤ i). let long = length-map path (λ (p : ℤ × ℤ). sampled p.0 p.1) in sym (get_or_past (entered path) i origin (omega arith)))
    (within_or_past i (length path))

-- the sample that is there enters as itself, and past the last there is zero
pub entered_at : (path : List (ℤ × ℤ)) (i : ℕ) (there : Option (ℤ × ℤ)) (answer zero : Fixed) → there ≡ slice_get path i → zero ≡ origin
    → MatchOption there (answer ≡ zero) (λ p. answer ≡ sampled p.0 p.1) → answer ≡ get_or (entered path) i origin
entered_at path i (Some p) answer zero is none at = at ∙ entered_there path i p.0 p.1 (sym is)
entered_at path i None answer zero is none at = at ∙ none ∙ entered_past path i (sym is)

pub entered_all : (path : List (ℤ × ℤ)) (out : List Fixed) → length out ≡ length path → ((k : ℕ) → k < length out → get_or out k origin ≡ get_or (entered path) k origin) → out ≡ entered path
entered_all path out long each = ext_get_or origin out (entered path) (long ∙ sym (length-map path _)) each

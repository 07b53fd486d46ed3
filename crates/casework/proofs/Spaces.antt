-- The words of a list whose white space is spaces alone.
use Rattle.std.proofs.Common.{◌≡◌, ◌==◌, not, Bool, true, false, cond, ℕ, ◌<◌, List, [], ◌∷◌, ◌++◌, length, filter, Result, IfOk, Vec, ap, sym, ◌∙◌, subst, refl, arith}
use Rattle.std.proofs.lemmas.Bool.{ne_eqb}
use Rattle.std.proofs.lemmas.List.{append_assoc, append-nil, get_or_default}
use Rattle.std.proofs.lemmas.List.Splits.{slice_split_at, slice_split_none}
use Rattle.std.proofs.lemmas.Result.{IfOk-weaker}
use Rattle.std.proofs.lemmas.Str.{NoCharPasses-byte}
use Rattle.std.specs.Char.{encode_utf8, is_whitespace, is_not_whitespace}
use Rattle.std.specs.List.{All, slice_split}
use Rattle.std.specs.Str.{NoCharPasses, NonePass, encode_utf8_all}
use Rattle.std.specs.Vec.{vec_items}
use Rattle.casework.specs.Listed.{Parted, HasWords, SpacesAlone}
use Rattle.casework.specs.Spelling.{space, spaced}

abbrev is_space : ℕ → Bool
is_space c = c == space

abbrev has_some : List ℕ → Bool
has_some word = not (length word == 0)

-- what stands at the end has no other white space either
at_end : (front back : List ℕ) → SpacesAlone (front ++ back) → SpacesAlone back
at_end front back alone = λ before after c white whole. alone (front ++ before) after c white (ap (λ l. front ++ l) whole ∙ sym (append_assoc front before (encode_utf8 c ++ after)))

white : (b : Bool) → not b ≡ false → b ≡ true
white true is = refl
white false is = sym is

-- the white space at the start has no word
gap_gone : (gap rest : List ℕ) → NonePass is_not_whitespace gap → SpacesAlone (encode_utf8_all gap ++ rest) → spaced (encode_utf8_all gap ++ rest) ≡ spaced rest
unfolding encode_utf8
gap_gone [] rest none alone = refl
gap_gone (g ∷ gap) rest none alone =
    let more = encode_utf8_all gap ++ rest in
    let apart = append_assoc (encode_utf8 g) (encode_utf8_all gap) rest in
    let is : g ≡ space = alone [] more g (white (is_whitespace g) none.0) apart in
    ap spaced (apart ∙ ap (λ c. encode_utf8 c ++ more) is) ∙ gap_gone gap rest none.1 (at_end (encode_utf8 g) more (subst SpacesAlone apart alone))

kept : (word : List ℕ) (words : List (List ℕ)) → 0 < length word → filter has_some (word ∷ words) ≡ word ∷ filter has_some words
kept [] words some = absurd (omega arith)
kept (b ∷ word) words some =
    let no : (length (b ∷ word) == 0) ≡ false = ne_eqb _ 0 (λ is. omega (arith, is)) in
    ap (λ none. cond (not none) ((b ∷ word) ∷ filter has_some words) (filter has_some words)) no

no_space : (word : List ℕ) → NoCharPasses is_whitespace word → All (λ b. is_space b ≡ false) word
no_space word unparted = λ k d within. ne_eqb _ space (λ is.
    let here = get_or_default word k 0 d within ∙ is in
    let no : true ≡ false = ap is_whitespace (sym here) ∙ NoCharPasses-byte is_whitespace word k unparted within (omega (arith, here)) in
    cc)

-- the word at the start is the first
begun : (word rest more : List ℕ) → 0 < length word → All (λ b. is_space b ≡ false) word → (0 < length rest → rest ≡ space ∷ more) → spaced (word ++ rest) ≡ word ∷ spaced rest
begun word [] more some free is = ap spaced (append-nil word) ∙ (ap (filter has_some) (slice_split_none is_space word free) ∙ kept word [] some)
begun word (b ∷ rest) more some free is =
    subst (λ r. spaced (word ++ r) ≡ word ∷ spaced r) (sym (is (omega arith))) (ap (filter has_some) (slice_split_at is_space word space more free refl) ∙ kept word (slice_split is_space more) some)

parted_spaced : (words : List (List ℕ)) (text : List ℕ) → SpacesAlone text → Parted text words → spaced text ≡ words
unfolding encode_utf8
parted_spaced [] text alone parted =
    let whole : encode_utf8_all parted.0 ++ [] ≡ text = append-nil (encode_utf8_all parted.0) ∙ parted.1 in
    ap spaced (sym whole) ∙ gap_gone parted.0 [] parted.2 (subst SpacesAlone (sym whole) alone)
parted_spaced (word ∷ words) text alone parted =
    let rest = parted.0 in
    let begins = parted.1 in
    let gap = begins.blank.0 in
    let whole : text ≡ encode_utf8_all gap ++ (word ++ rest) = begins.whole ∙ ap (λ l. l ++ (word ++ rest)) (sym begins.blank.1) in
    let there = subst SpacesAlone whole alone in
    let left = at_end word rest (at_end (encode_utf8_all gap) (word ++ rest) there) in
    let parts = λ (some : 0 < length rest). (let e = begins.ends.1 some in e.2 ∙ ap (λ c. encode_utf8 c ++ begins.ends.0) (left [] begins.ends.0 e.0 e.1 e.2)) in
    ap spaced whole ∙ (gap_gone gap (word ++ rest) begins.blank.2 there ∙ (begun word rest begins.ends.0 begins.some (no_space word begins.unparted) parts ∙ ap (λ ws. word ∷ ws) (parted_spaced words rest left parted.2)))

pub counted_spaced : {X Y Z : Type 0} (text : List ℕ) (r : Result (Vec X Y) Z) → IfOk r (λ v. HasWords text (length (vec_items v)))
    → SpacesAlone text → IfOk r (λ v. length (vec_items v) ≡ length (spaced text))
counted_spaced text r count alone = IfOk-weaker r _ _ (λ v is. is.2 ∙ ap length (sym (parted_spaced is.0 text alone is.1))) count

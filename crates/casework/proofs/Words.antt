-- The words of an element, taken apart at the comma.
use Rattle.std.proofs.Common.{◌≡◌, ℕ, zero, suc, ◌^◌, ◌<◌, List, ◌∷◌, ℤ, pos, negsuc, decimal, Option, Some, None, Result, Ok, Err, Bor, subst, unwrap_or, sym, w32, arith, rules}
use Rattle.std.specs.Fmt.{signed_decimal}
use Rattle.std.specs.Int.RustNames.{FitsSigned}
use lib.Signed.{mag}
use Rattle.std.specs.Str.Parse.{AllDigits, digits_value, ParsesUnsigned, ParsesSigned}
use Rattle.std.proofs.lemmas.Fmt.{digits_decimal, parse-decimal, parse-signed_decimal}
use Rattle.std.proofs.lemmas.Str.Parse.{IsNumeralModel, numerals_by_value, tells_digits, not_in_digits}
use Rattle.std.proofs.lemmas.Str.Pattern.{IsSplitOnceResult, split_after}
use Rattle.fixed.specs.Range.{InRange}
use Rattle.casework.specs.Spelling.{comma, Lacks, joined}

own : IsNumeralModel (AllDigits 10) (digits_value 10)
own = numerals_by_value _ tells_digits

-- a number has no comma
pub number_lacks : (n : ℕ) → n < 2 ^ 32 → Lacks comma (decimal n)
number_lacks n small = not_in_digits own (decimal n) comma (digits_decimal own n (omega arith)) (λ is. omega (arith, is.0, is.1))

-- two words that a comma joins are found by the cut at it, as they are
found_apart : (text u v : List ℕ) (cut : Option (Bor (List ℕ) × Bor (List ℕ))) (other : Bor (List ℕ) × Bor (List ℕ)) → IsSplitOnceResult comma text cut → Lacks comma u → text ≡ joined u v
    → ((unwrap_or cut other).0.now ≡ u) × ((unwrap_or cut other).1.now ≡ v)
found_apart text u v None other split lacks whole = absurd (split_after comma text u v None split (omega arith) whole lacks)
found_apart text u v (Some p) other split lacks whole = split_after comma text u v (Some p) split (omega arith) whole lacks

module _ (text u v : List ℕ) (cut : Option (Bor (List ℕ) × Bor (List ℕ))) (other got : Bor (List ℕ) × Bor (List ℕ)) (is_got : got ≡ unwrap_or cut other) (split : IsSplitOnceResult comma text cut) where
  pub cut_apart : Lacks comma u → text ≡ joined u v → (got.0.now ≡ u) × (got.1.now ≡ v)
  cut_apart lacks whole = subst (λ p. (p.0.now ≡ u) × (p.1.now ≡ v)) (sym is_got) (found_apart text u v cut other split lacks whole)

fits : (z : ℤ) → InRange z → FitsSigned w32 z
fits z small = search rules

small_enough : (z : ℤ) → InRange z → mag z < 2 ^ 63
small_enough z small = let h = (fits z small).sfits in omega arith

after_sign : (ds : List ℕ) → Lacks comma ds → Lacks comma (45 ∷ ds)
after_sign ds lacks zero within = λ is. omega (arith, is)
after_sign ds lacks (suc i) within = lacks i (omega arith)

pub signed_lacks : (z : ℤ) → InRange z → Lacks comma (signed_decimal z)
signed_lacks (pos n) small = let h = (fits (pos n) small).sfits in number_lacks n (omega arith)
signed_lacks (negsuc n) small = let h = (fits (negsuc n) small).sfits in after_sign (decimal (suc n)) (number_lacks (suc n) (omega arith))

-- what is read of a number's decimal digits is the number
module _ (n : ℕ) (bs : List ℕ) (small : n < 2 ^ 32) (is : bs ≡ decimal n) where
  word_read : {E : Type 0} (r : Result ℕ E) → ParsesUnsigned 32 10 bs r → r ≡ Ok n
  word_read r reads = parse-decimal 32 n bs r small (omega arith) is reads

  pub word_is : (m : ℕ) → ParsesUnsigned {E = ℕ} 32 10 bs (Ok m) → m ≡ n
  word_is m reads = let read = word_read {E = ℕ} (Ok m) reads in cc

  pub word_stands : {E : Type 0} (e : E) → ParsesUnsigned 32 10 bs (Err e) → ⊥
  word_stands e reads = let read = word_read (Err e) reads in let z : ◌≡◌ {A = ℕ} 0 1 = cc in omega arith

-- the same of a signed number
module _ (y : ℤ) (bs : List ℕ) (small : InRange y) (is : bs ≡ signed_decimal y) where
  signed_read : {E : Type 0} (r : Result ℤ E) → ParsesSigned w32 10 bs r → r ≡ Ok y
  signed_read r reads = parse-signed_decimal w32 y bs r (fits y small) (small_enough y small) is reads

  pub signed_is : (x : ℤ) → ParsesSigned {E = ℕ} w32 10 bs (Ok x) → x ≡ y
  signed_is x reads = let read = signed_read {E = ℕ} (Ok x) reads in cc

  pub signed_stands : {E : Type 0} (e : E) → ParsesSigned w32 10 bs (Err e) → ⊥
  signed_stands e reads = let read = signed_read (Err e) reads in let z : ◌≡◌ {A = ℕ} 0 1 = cc in omega arith

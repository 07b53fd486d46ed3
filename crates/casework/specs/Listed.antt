-- The words of a list, which white space parts.
use Rattle.std.specs.Prelude.{◌≡◌, ℕ, true, ◌<◌, List, [], ◌∷◌, ◌++◌, length}
use Rattle.std.specs.Char.{encode_utf8, is_whitespace, is_not_whitespace}
use Rattle.std.specs.Str.{NoCharPasses, EmptyOrStartsWithPassing}
use Rattle.casework.specs.Spelling.{space}

-- the text is white space, the word, and the rest, which is empty or begins with white space
pub record BeginsWith (word rest text : List ℕ) : Type 0 where
  pub gap : List ℕ
  pub whole : text ≡ gap ++ (word ++ rest)
  pub some : 0 < length word
  pub blank : NoCharPasses is_not_whitespace gap
  pub unparted : NoCharPasses is_whitespace word
  pub ends : (more : List ℕ) × EmptyOrStartsWithPassing is_whitespace rest more

-- the text's words are these, and around them is white space alone
abbrev pub Parted : List ℕ → List (List ℕ) → Type 0
Parted text [] = NoCharPasses is_not_whitespace text
Parted text (word ∷ words) = (rest : List ℕ) × BeginsWith word rest text × Parted rest words

-- it has so many words
abbrev pub HasWords : List ℕ → ℕ → Type 0
HasWords text n = (words : List (List ℕ)) × Parted text words × (n ≡ length words)

-- every white space in the text is a space
abbrev pub SpacesAlone : List ℕ → Type 0
SpacesAlone text = (before after : List ℕ) (c : ℕ) → is_whitespace c ≡ true → text ≡ before ++ (encode_utf8 c ++ after) → c ≡ space

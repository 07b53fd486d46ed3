-- How the elements of an arithmetic are written in a case, and their readings printed.
use Rattle.std.specs.Prelude.{◌≢◌, ◌==◌, not, ℕ, ◌<◌, List, ◌∷◌, ◌++◌, length, filter, slice_index, ℤ, decimal}
use Rattle.std.specs.Fmt.{signed_decimal}
use Rattle.std.specs.List.{slice_split}
use Rattle.fixed.specs.declared.Fixed.{Fixed}
use Rattle.path.specs.declared.Path.{Path}
use Rattle.pressure.specs.declared.Pressure.{Pressure}

pub record Spelling (X R : Type 0) : Type 0 where
  -- the element, as a case has it: its words as they stand
  pub written : X → List ℕ
  pub printed : R → List ℕ

abbrev pub comma : ℕ
comma = 44

abbrev pub space : ℕ
space = 32

abbrev pub Lacks : ℕ → List ℕ → Type 0
Lacks c word = (i : ℕ) → i < length word → slice_index word i ≢ c

-- two words, which a comma joins
abbrev pub joined : List ℕ → List ℕ → List ℕ
joined a b = a ++ (comma ∷ b)

-- the words of a list; between two spaces that meet there is none
abbrev pub spaced : List ℕ → List (List ℕ)
spaced text = filter (λ word. not (length word == 0)) (slice_split (λ c. c == space) text)

abbrev pub pressure_spelling : Spelling Pressure ℕ
pressure_spelling = record {
  written = λ a. decimal a.word;
  printed = decimal;
}

abbrev pub path_spelling : Spelling Path (ℕ × ℕ)
path_spelling = record {
  written = λ a. joined (decimal a.u) (decimal a.v);
  printed = λ r. joined (decimal r.0) (decimal r.1);
}

abbrev pub fixed_spelling : Spelling Fixed (ℤ × ℤ)
fixed_spelling = record {
  written = λ a. joined (signed_decimal a.x) (signed_decimal a.y);
  printed = λ r. joined (signed_decimal r.0) (signed_decimal r.1);
}

-- The pressure arithmetic: the whole numbers modulo 15·2^27 + 1. Assumes nothing.
use Rattle.std.specs.Prelude.{true, ℕ, ◌+◌, ◌*◌, ◌%◌, ◌^◌}
use Rattle.arithmetic.specs.Meaning.{Meaning}
use Rattle.residues.specs.Residues.{opposite}
use Rattle.residues.specs.Residues as residues
use Rattle.pressure.specs.declared.Pressure.{Pressure}

-- a prime
abbrev pub modulus : ℕ
modulus = 15 * 2 ^ 27 + 1

-- how many turns make a full circle
abbrev pub span : ℕ
span = 7680

-- 31 ^ ((modulus - 1) / span), reduced: 31 is the least number whose powers are all but 0
abbrev pub root : ℕ
root = 143112044

-- the span times this leaves 1
abbrev pub span_inverse : ℕ
span_inverse = 2013003777

-- the element of a number, reduced
abbrev pub residue : ℕ → Pressure
residue n = record { word = n % modulus }

-- the element of a count of pressure
abbrev pub counted : ℕ → Pressure
counted n = record { word = n }

-- the root's e-th power
abbrev pub power : ℕ → ℕ
power e = root ^ e % modulus

-- the element of it
abbrev pub powers : ℕ → Pressure
powers e = counted (power e)

-- n's inverse where n divides the span, else 0
abbrev pub inverse : ℕ → ℕ
inverse = residues.inverse modulus span span_inverse

-- the operations; each answers a reduced element
abbrev pub pressures : Meaning Pressure ℕ
pressures = record {
  value = λ a. residue a.word;
  zero = residue 0;
  sum = λ a b. residue (a.word + b.word);
  difference = λ a b. residue (a.word + opposite modulus b.word);
  turn = λ a e. residue (a.word * power e);
  product = λ a b. residue (a.word * b.word);
  part = λ a n. residue (a.word * inverse n);
  reading = λ a. a.word % modulus;
  span = span;
  exact = true;
  full = true;
}

-- The path arithmetic: pairs (u, v) modulo 2^31 - 1, with the product (u u' - v v', u v' + v u'). Assumes nothing.
use Rattle.std.specs.Prelude.{ℕ, zero, suc, ◌+◌, ◌-◌, ◌*◌, ◌%◌, ◌^◌, true, ℤ, pos, negsuc}
use Rattle.arithmetic.specs.Meaning.{Meaning}
use Rattle.residues.specs.Residues as residues
use Rattle.path.specs.declared.Path.{Path}
use Rattle.path.specs.declared.Reduced.{Reduced}

-- a prime that leaves 3 by 4, so that no square is -1 and the pairs but (0, 0) have inverses
abbrev pub modulus : ℕ
modulus = 2 ^ 31 - 1

-- how many turns make a full circle
abbrev pub span : ℕ
span = 4608

-- the span times this leaves 1
abbrev pub span_inverse : ℕ
span_inverse = 477684622

-- the element of two numbers, reduced
abbrev pub residue : ℕ → ℕ → Path
residue u v = record { u = u % modulus; v = v % modulus }

-- the element of two residues
abbrev pub element : Reduced → Path
element r = record { u = r.u.word; v = r.v.word }

-- what stands for -n: n and it leave 0
abbrev pub opposite : ℕ → ℕ
opposite = residues.opposite modulus

-- the product
abbrev pub times : Path → Path → Path
times a b = residue (a.u * b.u + opposite (a.v * b.v)) (a.u * b.v + a.v * b.u)

-- the power by (modulus ^ 2 - 1) / span of (12, 1), the first of (0, 1), (1, 1), (2, 1), .. whose powers are all pairs but (0, 0)
abbrev pub root : Path
root = record { u = 1569797033; v = 1612820169 }

-- the root's e-th power
unfoldable pub power : ℕ → Path
power zero = residue 1 0
power (suc e) = times (power e) root

-- n's inverse where n divides the span, else 0
abbrev pub inverse : ℕ → ℕ
inverse = residues.inverse modulus span span_inverse

-- the residue of a signed count
abbrev pub signed : ℤ → ℕ
signed (pos n) = n
signed (negsuc n) = modulus - suc n

-- the element of a sample of a path
abbrev pub sampled : ℤ → ℤ → Path
sampled x y = record { u = signed x; v = signed y }

-- the operations; each answers a reduced element
abbrev pub paths : Meaning Path (ℕ × ℕ)
paths = record {
  value = λ a. residue a.u a.v;
  zero = residue 0 0;
  sum = λ a b. residue (a.u + b.u) (a.v + b.v);
  difference = λ a b. residue (a.u + opposite b.u) (a.v + opposite b.v);
  turn = λ a e. times a (power e);
  product = times;
  part = λ a n. residue (a.u * inverse n) (a.v * inverse n);
  reading = λ a. (a.u % modulus, a.v % modulus);
  span = span;
  exact = true;
  full = true;
}

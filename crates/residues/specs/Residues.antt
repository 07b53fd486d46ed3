-- Residues: what numbers leave by a modulus. Assumes nothing.
use Rattle.std.specs.Prelude.{ℕ, ◌-◌, ◌*◌, ◌/◌, ◌%◌, ◌^◌, ◌<◌, ◌≤◌, cond, ◌==◌}

-- m may be a modulus: twice it fits a word
pub record Modulus (m : ℕ) : Type 0 where
  pub above_zero : 0 < m
  pub small : m ≤ 2 ^ 31

-- what stands for -n: n and it leave 0
abbrev pub opposite : ℕ → ℕ → ℕ
opposite m n = m - n % m

-- n's inverse where n divides the span, else 0: n times span / n times the span's inverse leaves 1
abbrev pub inverse : ℕ → ℕ → ℕ → ℕ → ℕ
inverse m span span_inverse n = cond (span % n == 0) ((span / n * span_inverse) % m) 0

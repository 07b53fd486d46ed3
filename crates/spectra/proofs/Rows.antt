-- Places by row and column, where a row has w places.
use Rattle.std.proofs.Common.{◌≡◌, ℕ, ◌+◌, ◌*◌, ◌/◌, ◌%◌, ◌^◌, ◌<◌, ◌≤◌, sym, ap, ◌∙◌, mul-le-mul_right, arith}
use Rattle.std.proofs.lemmas.Nat.{div-mul-add, mod-mul-add, mul-add-lt}

pub place_below : (a w b h : ℕ) → a < h → b < w → a * w + b < h * w
place_below a w b h p q = omega (arith, mul-add-lt a w b h p q)

pub same_row : (a b w c d : ℕ) → c < w → d < w → a * w + c ≡ b * w + d → a ≡ b
same_row a b w c d p q e = sym (div-mul-add a w c p) ∙ ap (λ x. x / w) e ∙ div-mul-add b w d q

pub same_column : (a b w c d : ℕ) → c < w → d < w → a * w + c ≡ b * w + d → c ≡ d
same_column a b w c d p q e = sym (mod-mul-add a w c p) ∙ ap (λ x. x % w) e ∙ mod-mul-add b w d q

pub part_fits : (r w : ℕ) → 0 < r → r * w < 2 ^ 32 → w < 2 ^ 32
part_fits r w some fits = let one : 1 * w ≤ r * w = mul-le-mul_right w some in omega arith

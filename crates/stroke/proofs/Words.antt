-- Numbers in two and in four bytes, there and back.
use Rattle.std.proofs.Common.{◌≡◌, ℕ, ◌+◌, ◌*◌, ◌/◌, ◌%◌, ◌^◌, ◌<◌, ◌≤◌, [], ◌∷◌, ℤ, nat_abs, ap, ◌∙◌, arith, w16, SFits, to_z, of_z}
use Rattle.std.proofs.lemmas.Int.{ints, to_z-of_z, of_z-to_z}
use Rattle.stroke.specs.Contents.{limit}
use Rattle.stroke.specs.Layout.{two_bytes, four_bytes, signed_bytes}

pub two_back : (n : ℕ) → n < 2 ^ 16 → n % 256 + n / 256 % 256 * 256 ≡ n
two_back n h = omega arith

pub four_back : (n : ℕ) → n < 2 ^ 32 → n % 256 + n / 256 % 256 * 256 + n / 65536 % 256 * 65536 + n / 16777216 % 256 * 16777216 ≡ n
four_back n h =
    let third : n / 65536 ≡ n / 256 / 256 = omega arith in
    let fourth : n / 16777216 ≡ n / 256 / 256 / 256 = omega arith in
    rw (third, fourth) (omega arith)

pub two_bytes_are : (a b : ℕ) → a < 256 → b < 256 → two_bytes (a + b * 256) ≡ a ∷ b ∷ []
two_bytes_are a b ha hb =
    let low : (a + b * 256) % 256 ≡ a = omega arith in
    let rest : (a + b * 256) / 256 ≡ b = omega arith in
    let high : b % 256 ≡ b = omega arith in
    rw (low, rest, high)

pub four_bytes_are : (a b c d : ℕ) → a < 256 → b < 256 → c < 256 → d < 256 → four_bytes (a + b * 256 + c * 65536 + d * 16777216) ≡ a ∷ b ∷ c ∷ d ∷ []
four_bytes_are a b c d ha hb hc hd =
    let n = a + b * 256 + c * 65536 + d * 16777216 in
    let first : n % 256 ≡ a = omega arith in
    let second : n / 256 ≡ b + (c + d * 256) * 256 = omega arith in
    let third : n / 65536 ≡ c + d * 256 = omega arith in
    let fourth : n / 16777216 ≡ d = omega arith in
    let second' : (b + (c + d * 256) * 256) % 256 ≡ b = omega arith in
    let third' : (c + d * 256) % 256 ≡ c = omega arith in
    let fourth' : d % 256 ≡ d = omega arith in
    rw (first, second, second', third, third', fourth, fourth')

-- a count within its limits fits 16 bits
small_fits : (z : ℤ) → nat_abs z ≤ limit → SFits w16 z
small_fits z h = omega (arith, ints)

small_bits : (z : ℤ) → nat_abs z ≤ limit → of_z w16 z < 2 ^ 16
small_bits z h = omega (arith, ints)

pub signed_back : (z : ℤ) → nat_abs z ≤ limit → to_z w16 (of_z w16 z % 256 + of_z w16 z / 256 % 256 * 256) ≡ z
signed_back z h = ap (to_z w16) (two_back (of_z w16 z) (small_bits z h)) ∙ to_z-of_z w16 z (small_fits z h)

pub signed_bytes_are : (a b : ℕ) → a < 256 → b < 256 → signed_bytes (to_z w16 (a + b * 256)) ≡ a ∷ b ∷ []
signed_bytes_are a b ha hb = ap two_bytes (of_z-to_z w16 (a + b * 256) (omega arith)) ∙ two_bytes_are a b ha hb

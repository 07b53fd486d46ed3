-- Laws of the product of integers. Assumes nothing.
use Rattle.std.proofs.Common.{◌≡◌, ◌*◌, ℤ, pos, ◌+ℤ◌, ◌*ℤ◌, neg_ℤ, sym, ap, ◌∙◌, arith}
use lib.IntN.{*ℤ_comm}
use borrow.Author.Differences.{up, down, product_is, fits_out, same_out, Apart-out, lt_T, le_T, lt_out, le_out, fits_in, same_in, lt_in, le_in, below_in, at_most_in, sum_is_lem, neg_is, abs_is}

-- for `omega`: what is linear in integers, with each product an unknown
pub ruleset linear = (fits_out, same_out, Apart-out, lt_T, le_T, lt_out, le_out, fits_in, same_in, lt_in, le_in, below_in, at_most_in, sum_is_lem, neg_is, abs_is)

pub mul_add : (x p q : ℤ) → x *ℤ (p +ℤ q) ≡ x *ℤ p +ℤ x *ℤ q
mul_add x p q =
    let s = sum_is_lem p q in
    omega (arith, same_in, sum_is_lem, product_is, ap (λ n. up x * n) s, ap (λ n. down x * n) s)

pub add_mul : (p q x : ℤ) → (p +ℤ q) *ℤ x ≡ p *ℤ x +ℤ q *ℤ x
add_mul p q x = *ℤ_comm (p +ℤ q) x ∙ mul_add x p q ∙ (λ i. *ℤ_comm x p i +ℤ *ℤ_comm x q i)

pub mul_assoc : (x y z : ℤ) → (x *ℤ y) *ℤ z ≡ x *ℤ (y *ℤ z)
mul_assoc x y z =
    let l = product_is x y in
    let r = product_is y z in
    omega (
      arith,
      same_in,
      product_is,
      ap (λ n. n * up z) l.0,
      ap (λ n. n * down z) l.0,
      ap (λ n. n * up z) l.1,
      ap (λ n. n * down z) l.1,
      ap (λ n. up x * n) r.0,
      ap (λ n. down x * n) r.0,
      ap (λ n. up x * n) r.1,
      ap (λ n. down x * n) r.1,
    )

pub mul_swap : (x y z : ℤ) → x *ℤ (y *ℤ z) ≡ y *ℤ (x *ℤ z)
mul_swap x y z = sym (mul_assoc x y z) ∙ ap (λ w. w *ℤ z) (*ℤ_comm x y) ∙ mul_assoc y x z

pub mul_neg : (x p : ℤ) → x *ℤ neg_ℤ p ≡ neg_ℤ (x *ℤ p)
mul_neg x p =
    let n = neg_is p in
    omega (
      arith,
      same_in,
      product_is,
      neg_is,
      ap (λ k. up x * k) n.0,
      ap (λ k. down x * k) n.0,
      ap (λ k. up x * k) n.1,
      ap (λ k. down x * k) n.1,
    )

pub mul_one : (z : ℤ) → z *ℤ pos 1 ≡ z
mul_one z = omega (arith, linear, product_is)

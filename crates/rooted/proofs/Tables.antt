-- Two tables hold a root's powers: each is compared, whole, with the list that goes on from one by one factor.
--
-- element   what an entry of a table stands for
-- entry     the entry of an element
use Rattle.std.proofs.Common.{◌≡◌, ℕ, suc, ◌*◌, ◌<◌, List, get_or, sym, ap, ◌∙◌}
use Rattle.algebra.proofs.Iterated.{iterated, at_iterated}
use Rattle.arithmetic.specs.Meaning.{Meaning}
use Rattle.rooted.proofs.Rooted.{Rooted}
use Rattle.rooted.proofs.Rooted as from_root

module _ {A R E : Type 0} (m : Meaning A R) (power : ℕ → A) (r : Rooted m power) (element : E → A) (entry : A → E) (back : (a : A) → element (entry a) ≡ a) where
  -- times a factor
  abbrev by : A → E → E
  by w x = entry (m.product (element x) w)

  steps_by : (f : ℕ → A) (w : A) → ((e : ℕ) → f (suc e) ≡ m.product (f e) w) → (d : E) (table : List E) (n : ℕ) → table ≡ iterated (by w) (entry (f 0)) n → (place : ℕ) → place < n → element (get_or table place d) ≡ f place
  steps_by f w more d table n is place low =
      let onward : (e : ℕ) → entry (f (suc e)) ≡ by w (entry (f e)) = λ e. ap entry (more e ∙ ap (λ a. m.product a w) (sym (back (f e)))) in
      ap element (at_iterated (by w) (λ e. entry (f e)) onward d table n is place low) ∙ back (f place)

  pub low_powers : (d : E) (table : List E) (n : ℕ) → table ≡ iterated (by (power 1)) (entry (power 0)) n → (place : ℕ) → place < n → element (get_or table place d) ≡ power place
  low_powers = steps_by power (power 1) r.power_more

  -- the powers by the multiples of s
  pub high_powers : (s : ℕ) (d : E) (table : List E) (n : ℕ) → table ≡ iterated (by (power s)) (entry (power (s * 0))) n → (place : ℕ) → place < n → element (get_or table place d) ≡ power (s * place)
  high_powers s = steps_by (λ e. power (s * e)) (power s) (from_root.power_steps m power r s)

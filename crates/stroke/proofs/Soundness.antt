-- A stroke is sound exactly where no field of it is beyond its limits, given its length and its pressures' number.
use Rattle.std.proofs.Common.{◌≡◌, ℕ, zero, suc, ◌+◌, ◌<◌, ◌≤◌, List, [], length, get_or, ℤ, pos, nat_abs, IfSome, Some, None, Option, unwrap_or, refl, ap, ⊎_elim, zero-le, eq-or-lt_of_le, arith}
use Rattle.std.specs.List.{AllByRecursion}
use Rattle.std.proofs.ByRecursion.{All-from_get_or}
use Rattle.std.proofs.lemmas.Bool.Decides.{nat_tests}
use Rattle.stroke.specs.declared.fields.Field.{Field}
use Rattle.stroke.specs.Contents.{Contents, Sound, Near, limit, most_samples, path_at, pressures, field_beyond, beyond_at, here_or, beyond_from, first_beyond}
use Rattle.stroke.proofs.Indexed.{all_at}

within_limits : (x y : ℤ) (u : ℕ) → nat_abs x ≤ limit → nat_abs y ≤ limit → u ≤ limit → field_beyond x y u ≡ None
within_limits x y u a b h = grind (arith, nat_tests)

limits_kept : (x y : ℤ) (u : ℕ) → field_beyond x y u ≡ None → (nat_abs x ≤ limit) × (nat_abs y ≤ limit) × (u ≤ limit)
limits_kept x y u e = (grind (arith, nat_tests), grind (arith, nat_tests), grind (arith, nat_tests))

passed_none : (i : ℕ) (o : Option Field) (later : Option (ℕ × Field)) → here_or i o later ≡ None → (o ≡ None) × (later ≡ None)
passed_none i (Some f) later e = let z : ◌≡◌ {A = ℕ} 0 1 = cc in absurd (omega arith)
passed_none i None later e = (refl, e)

-- a search that finds nothing passed each sample, and the other way round
none_each : (c : Contents) (n i : ℕ) → beyond_from c i n ≡ None → (j : ℕ) → i ≤ j → j < i + n → beyond_at c j ≡ None
unfolding beyond_from
none_each c zero i e j low high = absurd (omega arith)
none_each c (suc n) i e j low high =
    let h = passed_none i (beyond_at c i) (beyond_from c (i + 1) n) e in
    ⊎_elim
    (λ (same : i ≡ j). rw same at h.0)
    (λ (less : i < j). none_each c n (i + 1) h.1 j (omega arith) (omega arith))
    (eq-or-lt_of_le low)

pub each_none : (c : Contents) (n i : ℕ) → ((j : ℕ) → i ≤ j → j < i + n → beyond_at c j ≡ None) → beyond_from c i n ≡ None
unfolding beyond_from
each_none c zero i each = refl
each_none c (suc n) i each =
    rw (each i (omega arith) (omega arith)) (each_none c n (i + 1) (λ j low high. each j (omega arith) (omega arith)))

module _ (c : Contents) (some : 0 < length c.path) (most : length c.path ≤ most_samples) (none : first_beyond c ≡ None) where
  kept : (i : ℕ) → i < length c.path → (nat_abs (path_at c i).0 ≤ limit) × (nat_abs (path_at c i).1 ≤ limit) × (get_or (pressures c) i 0 ≤ limit)
  kept i h = limits_kept (path_at c i).0 (path_at c i).1 (get_or (pressures c) i 0) (none_each c (length c.path) 0 none i (omega arith) (omega arith))

  near : AllByRecursion Near c.path
  near = All-from_get_or Near c.path (pos 0, pos 0) (λ i h. let k = kept i h in (k.0, k.1))

  pressed : (o : Option (List ℕ)) → c.pressure ≡ o → IfSome o (λ us. length us ≡ length c.path)
      → IfSome o (λ us. (length us ≡ length c.path) × AllByRecursion (λ u. u ≤ limit) us)
  pressed None e n = tt
  pressed (Some us) e n =
      (n, All-from_get_or (λ u. u ≤ limit) us 0 (λ i h. let k = (kept i (omega arith)).2 in rw (ap (λ o. unwrap_or o []) e) at k))

  pub sound_from : IfSome c.pressure (λ us. length us ≡ length c.path) → Sound c
  sound_from n = record { some = some; most = most; near = near; pressed = pressed c.pressure refl n }

pub near_at : (c : Contents) → Sound c → (i : ℕ) → Near (path_at c i)
near_at c h = all_at Near c.path (pos 0, pos 0) (omega arith, omega arith) h.near

low_pressure : (n : ℕ) (o : Option (List ℕ)) → IfSome o (λ us. (length us ≡ n) × AllByRecursion (λ u. u ≤ limit) us) → (i : ℕ) → get_or (unwrap_or o []) i 0 ≤ limit
low_pressure n None h i = zero-le
low_pressure n (Some us) h i = all_at (λ u. u ≤ limit) us 0 zero-le h.1 i

pub pressure_low : (c : Contents) → Sound c → (i : ℕ) → get_or (pressures c) i 0 ≤ limit
pressure_low c h = low_pressure (length c.path) c.pressure h.pressed

pub sound_none : (c : Contents) → Sound c → first_beyond c ≡ None
sound_none c h =
    each_none c (length c.path) 0
    (λ j low high.
    let near = near_at c h j in
    within_limits (path_at c j).0 (path_at c j).1 (get_or (pressures c) j 0) near.0 near.1 (pressure_low c h j))

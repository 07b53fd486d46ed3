-- A lent stroke passes both tests exactly where it is sound.
use Rattle.std.proofs.Common.{◌≡◌, ℕ, ◌<◌, ◌≤◌, true, List, length, IfSome, Some, None, Ok, Option, refl, ap, arith}
use Rattle.std.specs.List.{AllByRecursion}
use Rattle.std.proofs.lemmas.Bool.Decides.{nat_tests}
use Rattle.stroke.specs.declared.fields.Field.{Field}
use Rattle.stroke.specs.Contents.{Contents, Sound, limit, most_samples, first_beyond}
use Rattle.writing.specs.Lending.{as_many, sized, unless_found, within_limits}
use Rattle.stroke.proofs.Soundness.{sound_from, sound_none}

none_found : (o : Option (ℕ × Field)) → Ok tt ≡ unless_found o → o ≡ None
none_found None e = refl
none_found (Some at) e = let z : ◌≡◌ {A = ℕ} 0 1 = cc in absurd (omega arith)

many : (o : Option (List ℕ)) (n : ℕ) → as_many o n ≡ true → IfSome o (λ us. length us ≡ n)
many None n e = tt
many (Some us) n e = grind (arith, nat_tests)

many_are : (o : Option (List ℕ)) (n : ℕ) → IfSome o (λ us. (length us ≡ n) × AllByRecursion (λ u. u ≤ limit) us) → as_many o n ≡ true
many_are None n h = refl
many_are (Some us) n h = let e = h.0 in grind (arith, nat_tests)

sized_says : (c : Contents) → Ok tt ≡ sized c → (0 < length c.path) × (length c.path ≤ most_samples) × (as_many c.pressure (length c.path) ≡ true)
sized_says c e = (grind (arith, nat_tests), grind (arith, nat_tests), grind (arith, nat_tests))

pub sound_lent : (c : Contents) → Ok tt ≡ sized c → Ok tt ≡ within_limits c → Sound c
sound_lent c size limits =
    let says = sized_says c size in
    sound_from c says.0 says.1 (none_found (first_beyond c) limits) (many c.pressure (length c.path) says.2)

pub sound_sized : (c : Contents) → Sound c → sized c ≡ Ok tt
sound_sized c h =
    let equal = many_are c.pressure (length c.path) h.pressed in
    let some = h.some in let most = h.most in
    grind (arith, nat_tests)

pub sound_within : (c : Contents) → Sound c → within_limits c ≡ Ok tt
sound_within c h = ap unless_found (sound_none c h)

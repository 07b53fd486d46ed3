-- The search for the first field that is beyond its limits.
use Rattle.std.proofs.Common.{◌≡◌, ℕ, zero, suc, ◌+◌, ◌/◌, ◌<◌, ◌≤◌, Bool, true, false, ◌⊎◌, List, length, get_or, pos, IsSomeAnd, IfSome, MatchOption, Some, None, Option, sym, refl, subst, ap, ◌∙◌, inl, inr, ⊎_elim, zero-add, eq-or-lt_of_le, arith}
use denote.Param.Members.{Mut}
use Rattle.std.specs.declared.ops.Range.{Range}
use Rattle.std.specs.Fn.{Called}
use Rattle.std.specs.Option.{option_map}
use Rattle.std.specs.Iterator.Runs.{Run, SomeRun, AllItemsGive, IsFirstToGive, CallKeepsClosure, ItemsCountUp}
use Rattle.std.proofs.iter.Yields.{nat_range_steps}
use Rattle.std.proofs.iter.runs.Sources.{range_runs}
use Rattle.std.proofs.lemmas.List.FromFn.{length-map-range_with_len}
use Rattle.std.proofs.lemmas.Option.{slice_get-get_or}
use Rattle.std.proofs.lemmas.Bool.Decides.{nat_tests}
use Rattle.stroke.specs.declared.fields.Field.{Field}
use Rattle.stroke.specs.Contents.{Contents, path_at, pressures, sample, here_or, beyond_at, beyond_from, first_beyond}
use Rattle.stroke.specs.Layout.{field_size, field_offset, sample_size, field_at}
use Rattle.stroke.specs.Reading.{stroke_of}
use Rattle.stroke.proofs.Samples.{sample_inside}
use Rattle.stroke.proofs.Soundness.{each_none}

-- ---- what the search finds is the first of the samples that it looked at
here_or_later : (i j : ℕ) (f : Field) (o : Option Field) (later : Option (ℕ × Field)) → here_or i o later ≡ Some (j, f)
    → ((i ≡ j) × (o ≡ Some f)) ⊎ ((o ≡ None) × (later ≡ Some (j, f)))
here_or_later i j f (Some g) later e =
    let same : ◌≡◌ {A = ℕ × Field} (i, g) (j, f) = cc in inl (ap (λ p. p.0) same, ap (λ p. Some p.1) same)
here_or_later i j f None later e = inr (refl, e)

pub first_from : (c : Contents) (n i j : ℕ) (f : Field) → beyond_from c i n ≡ Some (j, f)
    → (j < i + n) × (beyond_at c j ≡ Some f) × ((k : ℕ) → i ≤ k → k < j → beyond_at c k ≡ None)
unfolding beyond_from
first_from c zero i j f e = let z : ◌≡◌ {A = ℕ} 0 1 = cc in absurd (omega arith)
first_from c (suc n) i j f e =
    ⊎_elim
    (λ (here : (i ≡ j) × (beyond_at c i ≡ Some f)). (omega arith, rw here.0 at here.1, λ k low high. absurd (omega arith)))
    (λ (later : (beyond_at c i ≡ None) × (beyond_from c (i + 1) n ≡ Some (j, f))).
    let found = first_from c n (i + 1) j f later.1 in (
      omega arith,
      found.1,
      λ k low high.
          ⊎_elim (λ (same : i ≡ k). rw same at later.0) (λ (less : i < k). found.2 k (omega arith) high) (eq-or-lt_of_le low),
    ))
    (here_or_later i j f (beyond_at c i) (beyond_from c (i + 1) n) e)

-- and the other way round
first_found : (c : Contents) (n i j : ℕ) (f : Field) → i ≤ j → j < i + n → ((k : ℕ) → i ≤ k → k < j → beyond_at c k ≡ None) → beyond_at c j ≡ Some f
    → beyond_from c i n ≡ Some (j, f)
unfolding beyond_from
first_found c zero i j f low high before here = absurd (omega arith)
first_found c (suc n) i j f low high before here =
    ⊎_elim
    (λ (same : i ≡ j). rw (same, here))
    (λ (less : i < j).
    rw (before i (omega arith) less)
    (first_found c n (i + 1) j f (omega arith) (omega arith) (λ k a b. before k (omega arith) b) here))
    (eq-or-lt_of_le low)

-- ---- `find_map` over the samples
pub sample_there : (c : Contents) (i : ℕ) → i < length c.path → sample c i ≡ Some ((path_at c i).0, (path_at c i).1, get_or (pressures c) i 0)
sample_there c i h = ap (option_map (λ p. (p.0, p.1, get_or (pressures c) i 0))) (slice_get-get_or c.path i (pos 0, pos 0) h)

none_here : (i : ℕ) (o : Option Field) → None ≡ here_or i o None → o ≡ None
none_here i None e = refl
none_here i (Some f) e = let z : ◌≡◌ {A = ℕ} 0 1 = cc in absurd (omega arith)

some_here : (i : ℕ) (o : Option Field) (y : ℕ × Field) → Some y ≡ here_or i o None → (y.0 ≡ i) × (o ≡ Some y.1)
some_here i None y e = let z : ◌≡◌ {A = ℕ} 0 1 = cc in absurd (omega arith)
some_here i (Some f) y e = let same : y ≡ (i, f) = cc in (ap (λ p. p.0) same, sym (ap (λ p. Some p.1) same))

number : (o : Option ℕ) (i : ℕ) → option_map (λ k. k) o ≡ Some (0 + i) → o ≡ Some i
number (Some k) i e = e ∙ ap Some (zero-add i)
number None i e = let z : ◌≡◌ {A = ℕ} 0 1 = cc in absurd (omega arith)

module _ {F : Type 0} (g : Mut F (ℕ × Unit {0}) (Option (ℕ × Field))) (c : Contents) (f : F) (keeps : CallKeepsClosure g f)
    (each : (i : ℕ) (r : Option (ℕ × Field)) → i < length c.path → Called g f (i, tt) r f → r ≡ here_or i (beyond_at c i) None) where
  abbrev Answers : Option (ℕ × Field) → Run nat_range_steps → Type 0
  Answers r p = MatchOption r ((p.whole ≡ true) × AllItemsGive p g f None) (λ y. (i : ℕ) × (i < p.len) × (p.len ≡ i + 1) × IsFirstToGive p g f (Some y) None i)

  pub search_answers : (s : Range ℕ) → s ≡ record { start = 0; end = length c.path } → (r : Option (ℕ × Field)) → SomeRun nat_range_steps s (Answers r)
      → r ≡ first_beyond c
  search_answers s e r (p, from, is) = answers r is
    where
      n : ℕ
      n = length c.path

      same : p.from ≡ record { start = 0; end = n }
      same = from ∙ e

      counts : ItemsCountUp p 0 n
      counts = subst (λ (s : Range ℕ). ItemsCountUp p s.start s.end) same (range_runs p p.seen)

      at : (k : ℕ) → k < p.len → p.at k ≡ Some k
      at k h = number (p.at k) k (counts.3 k h)

      answers : (r : Option (ℕ × Field)) → Answers r p → r ≡ first_beyond c
      answers None h =
          sym (each_none c n 0 (λ j low high.
          none_here j (beyond_at c j) (each j None (omega arith) (subst (λ o. IfSome o (λ x. Called g f (x, tt) None f)) (at j (omega (arith, counts.1 h.0))) (h.1 keeps j)))))
      answers (Some y) (i, inside, last, first) =
          let h = first keeps in
          let low : i < n = omega (arith, counts.0) in
          let here = some_here i (beyond_at c i) y (each i (Some y) low (subst (λ o. IsSomeAnd o (λ x. Called g f (x, tt) (Some y) f)) (at i inside) h.0)) in
          sym (first_found c n 0 i y.1 (omega arith) (omega arith) (λ k a b.
          none_here k (beyond_at c k) (each k None (omega arith) (subst (λ o. IsSomeAnd o (λ x. Called g f (x, tt) None f)) (at k (omega arith)) (h.1 k b))))
          here.1 ∙ ap (λ k. Some (k, y.1)) (sym here.0))

-- ---- so it lies within the samples' bytes
field_fits : (pressed : Bool) (bs : List ℕ) (i : ℕ) (f : Field) → beyond_at (stroke_of pressed bs) i ≡ Some f → field_offset f + field_size ≤ sample_size pressed
field_fits true bs i f e = grind (arith, nat_tests)
field_fits false bs i f e = grind (arith, nat_tests)

pub field_inside : (pressed : Bool) (bs : List ℕ) (i : ℕ) (f : Field) → Some (i, f) ≡ first_beyond (stroke_of pressed bs) → field_at pressed i f < length bs
field_inside pressed bs i f e =
    let found = first_from (stroke_of pressed bs) (length (stroke_of pressed bs).path) 0 i f (sym e) in
    let there : i < length bs / sample_size pressed = omega (arith, simp length-map-range_with_len at found.0) in
    omega (arith, sample_inside pressed (length bs) i there, field_fits pressed bs i f found.1)

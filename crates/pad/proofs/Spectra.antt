-- How far a file gets on its way to a spectrum.
use Rattle.std.proofs.Common.{◌≡◌, ℕ, ◌-◌, ◌≤◌, min, List, ◌++◌, length, take, drop, ℤ, IsErrAnd, Ok, Err, Result, sym, ap, ◌∙◌, subst, arith}
use borrow.Rule.Slice.PartMut.{post_of}
use Rattle.std.proofs.lemmas.List.{length-map, length-take}
use Rattle.std.proofs.lemmas.Bool.Decides.{nat_tests}
use Rattle.std.specs.Result.{result_and, result_map_both}
use Rattle.fixed.specs.declared.Fixed.{Fixed}
use Rattle.fixed.specs.Pairs.{fixed, entered}
use Rattle.plan.specs.declared.fault.PlanFault.{PlanFault}
use Rattle.plan.specs.Lengths.{Granted}
use Rattle.plan.specs.Radices.{size, turns}
use Rattle.plan.specs.Standard.{standard}
use Rattle.plan.proofs.Factoring.{standard_granted}
use Rattle.quarter.specs.Entries.{circle}
use Rattle.refusal.specs.declared.Fault.{Fault}
use Rattle.refusal.specs.declared.Fault.TheVariants.{File, Plan}
use Rattle.spectrum.specs.Granted.{divided, lent}
use Rattle.spectra.specs.Tones.{tones}
use Rattle.spectra.proofs.Recursion.{length_tones}
use Rattle.stroke.specs.declared.fault.FileFault.{FileFault}
use Rattle.stroke.specs.Contents.{Contents}
use Rattle.stroke.specs.Reading.{decode}
use Rattle.pad.specs.declared.files.Summary.{Summary}
use Rattle.pad.specs.Files.{Spectrum, path_spectrum, stroke_spectrum, file_spectrum, summary, in_front, cleared}
use Rattle.pad.proofs.Granting.{both_granted}

-- a refusal is told as it is, and leaves what was lent
module _ (s : Result Spectrum Fault) (f : Fault) (is : s ≡ Err f) where
  pub told : (r : Result Summary Fault) → IsErrAnd r (λ g. g ≡ f) → r ≡ result_map_both summary (λ g. g) s
  told (Ok x) by = absurd by
  told (Err g) by = ap Err by ∙ ap (result_map_both summary (λ g. g)) (sym is)

  pub tones_stay : (buf : List Fixed) → buf ≡ in_front s buf
  tones_stay buf = ap (λ x. in_front x buf) (sym is)

  pub work_stays : (work : List Fixed) → work ≡ cleared s work
  work_stays work = ap (λ x. cleared x work) (sym is)

-- the same lengths are granted the same
pub granting : {n n' part part' : ℕ} → n ≡ n' → part ≡ part' → (work : ℕ) → result_and (divided circle n) (lent n part work) ≡ result_and (divided circle n') (lent n' part' work)
granting {n} {n'} {part} same same_part work =
    ap (λ x. result_and (divided circle x) (lent x part work)) same ∙ ap (λ x. result_and (divided circle n') (lent n' x work)) same_part

-- the first of two tests that refuses decides
first_refuses : {X : Type 0} (first second : Result (Unit {0}) Fault) (answer : Result X Fault) (f : Fault) → Err f ≡ result_and first second → result_and first (result_and second answer) ≡ Err f
first_refuses (Ok _) (Ok _) answer f is = let z : ◌≡◌ {A = ℕ} 0 1 = cc in absurd (omega arith)
first_refuses (Ok _) (Err e) answer f is = let same : e ≡ f = cc in ap Err same
first_refuses (Err e) second answer f is = let same : e ≡ f = cc in ap Err same

module _ (room work : ℕ) (bs : List ℕ) where
  pub unread : (f : FileFault) → decode bs ≡ Err f → file_spectrum room work bs ≡ Err (File f)
  unfolding file_spectrum
  unread f is = ap (stroke_spectrum room work) is

  module _ (c : Contents) (is : decode bs ≡ Ok c) where
    pub unplanned : (f : PlanFault) → Err f ≡ standard (length c.path) → file_spectrum room work bs ≡ Err (Plan f)
    unfolding file_spectrum
    unplanned f none = ap (stroke_spectrum room work) is ∙ ap (path_spectrum room work c.path) (sym none)

    module _ (rs : List ℕ) (plan : Ok rs ≡ standard (length c.path)) where
      under_plan : file_spectrum room work bs ≡ path_spectrum room work c.path (Ok rs)
      unfolding file_spectrum
      under_plan = ap (stroke_spectrum room work) is ∙ ap (path_spectrum room work c.path) (sym plan)

      pub ungranted : (f : Fault) → Err f ≡ result_and (divided circle (size rs)) (lent (size rs) (min room (size rs)) work) → file_spectrum room work bs ≡ Err f
      ungranted f refused = under_plan ∙ first_refuses (divided circle (size rs)) (lent (size rs) (min room (size rs)) work) _ f refused

      pub granted : Ok tt ≡ result_and (divided circle (size rs)) (lent (size rs) (min room (size rs)) work) → file_spectrum room work bs ≡ Ok (record { turns = turns rs; tones = tones fixed rs (entered c.path) })
      granted all = under_plan ∙ both_granted (divided circle (size rs)) (lent (size rs) (min room (size rs)) work) _ all

-- the standard plan is for its length
pub standard_size : (n : ℕ) (rs : List ℕ) → Ok rs ≡ standard n → size rs ≡ n
standard_size n rs is = (subst (Granted n) (sym is) (standard_granted n)).product

-- where a plan is granted a part of the buffer, the buffer has that part
module _ (n count room work part : ℕ) (counted : count ≡ n) (least : part ≡ min room count) (is : Ok tt ≡ result_and (divided circle n) (lent n part work)) where
  whole_part : part ≡ n
  whole_part = grind (arith, nat_tests)

  pub part_within : count ≤ room
  part_within = let whole = whole_part in omega arith

pub part_granted : (n count : ℕ) (tones : List Fixed) (work part : ℕ) → count ≡ n → part ≡ min (length tones) count → Ok tt ≡ result_and (divided circle n) (lent n part work) → Ok tt ≡ result_and (divided circle n) (lent n (length (take (count - 0) tones)) work)
part_granted n count tones work part counted least is =
    let within = part_within n count (length tones) work part counted least is in
    let long : part ≡ length (take (count - 0) tones) = whole_part n count (length tones) work part counted least is ∙ sym (simp length-take (omega arith)) in
    is ∙ ap (λ k. result_and (divided circle n) (lent n k work)) long

pub entered_long : (rs : List ℕ) (path : List (ℤ × ℤ)) → size rs ≡ length path → length (tones fixed rs (entered path)) ≡ size rs
entered_long rs path whole = length_tones fixed rs (entered path) (length-map path _ ∙ sym whole)

-- what is told of a granted file
module _ (rs : List ℕ) (path : List (ℤ × ℤ)) (s : Result Spectrum Fault) (count : ℕ) (long : length (tones fixed rs (entered path)) ≡ size rs)
    (is : s ≡ Ok (record { turns = turns rs; tones = tones fixed rs (entered path) })) (counted : count ≡ size rs) where
  pub summed : (made : ℕ) → made ≡ turns rs → Ok (record { count = count; turns = made }) ≡ result_map_both summary (λ g. g) s
  summed made turned =
      (λ i. Ok (record { count = (counted ∙ sym long) i; turns = turned i })) ∙ ap (result_map_both summary (λ g. g)) (sym is)

  pub fronted : (before part : List Fixed) → part ≡ tones fixed rs (entered path) → part ++ post_of 0 (count - 0) before ≡ in_front s before
  fronted before part filled =
      let same : count - 0 ≡ length (tones fixed rs (entered path)) = omega arith in
      ap (λ n. part ++ drop n before) same ∙ ap (λ x. x ++ drop (length (tones fixed rs (entered path))) before) filled ∙ ap (λ x. in_front x before) (sym is)

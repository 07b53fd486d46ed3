-- The field that a refusal names is the first one beyond its limits.
use Rattle.std.proofs.Common.{◌≡◌, ℕ, ◌+◌, List, length, Some, None, Err, Option, sym, refl, ap, ◌∙◌, arith}
use Rattle.stroke.specs.declared.fault.FileFault.TheVariants.{Field as OfField}
use Rattle.stroke.specs.declared.fields.Field.{Field}
use Rattle.stroke.specs.Contents.{first_beyond}
use Rattle.stroke.specs.Layout.{field_at}
use Rattle.stroke.specs.Reading.{pressed_in, start_in, stroke_in, unless_beyond}
use Rattle.stroke.specs.Format.{FirstNamed}
use Rattle.stroke.proofs.Beyond.{first_from}
use Rattle.stroke.proofs.Trailer.{decode_in_order, rank, in_order}

unless_err : (bs : List ℕ) (o : Option (ℕ × Field)) (at : ℕ) → unless_beyond bs o ≡ Err (OfField at)
    → (i : ℕ) × (f : Field) × (o ≡ Some (i, f)) × (at ≡ start_in bs + field_at (pressed_in bs) i f)
unless_err bs None at e = let z : ◌≡◌ {A = ℕ} 0 1 = cc in absurd (omega arith)
unless_err bs (Some (i, f)) at e = (i, f, refl, cc)

pub first_named : FirstNamed
first_named bs at e =
    let order = in_order bs (ap rank e) in
    let c = stroke_in bs in
    let (i, f, found, place) = unless_err bs (first_beyond c) at (sym (decode_in_order bs order) ∙ e) in
    let first = first_from c (length c.path) 0 i f found in
    (i, f, place, record { beyond = first.1; before = λ j h. first.2 j (omega arith) h })

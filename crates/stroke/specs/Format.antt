-- What stands above reading: a file is granted exactly where it is the file of a stroke, and as that stroke.
use Rattle.std.specs.Prelude.{◌≡◌, ℕ, ◌+◌, ◌<◌, List, Some, None, Ok, Err}
use Rattle.std.specs.List.{AllByRecursion}
use Rattle.stroke.specs.declared.fault.FileFault.TheVariants.{Field as OfField}
use Rattle.stroke.specs.declared.fields.Field.{Field}
use Rattle.stroke.specs.Contents.{Contents, beyond_at}
use Rattle.stroke.specs.Layout.{field_at}
use Rattle.stroke.specs.Reading.{pressed_in, start_in, stroke_in, decode}
use Rattle.stroke.specs.Writing.{FileOf}

-- the bytes that are granted are a file of the stroke that is read
abbrev pub Granted : Type 0
Granted = (bs : List ℕ) (c : Contents) → AllByRecursion (λ b. b < 256) bs → decode bs ≡ Ok c → FileOf c bs

-- every file of a stroke is granted, and read as that stroke
abbrev pub ReadsBack : Type 0
ReadsBack = (bs : List ℕ) (c : Contents) → FileOf c bs → decode bs ≡ Ok c

-- field f of sample i is beyond its limits, and no field before it is
pub record FirstBeyond (c : Contents) (i : ℕ) (f : Field) : Type 0 where
  pub beyond : beyond_at c i ≡ Some f
  pub before : (j : ℕ) → j < i → beyond_at c j ≡ None

-- the field that a refusal names is the first one beyond its limits
abbrev pub FirstNamed : Type 0
FirstNamed = (bs : List ℕ) (at : ℕ) → decode bs ≡ Err (OfField at)
    → (i : ℕ) × (f : Field) × (at ≡ start_in bs + field_at (pressed_in bs) i f) × FirstBeyond (stroke_in bs) i f

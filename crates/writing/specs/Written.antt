-- What write answers and leaves behind, and that reading undoes it.
use Rattle.std.specs.Prelude.{◌≡◌, ℕ, ◌+◌, ◌<◌, ◌≤◌, cond, List, ◌++◌, length, take, drop, is_ok, Ok, Err, Result, nat_lt}
use Rattle.std.specs.Result.{result_and}
use Rattle.std.specs.List.{AllByRecursion}
use Rattle.writing.specs.declared.lent.LentFault.{LentFault}
use Rattle.writing.specs.declared.lent.LentFault.TheVariants.{Room}
use Rattle.stroke.specs.Contents.{Contents}
use Rattle.stroke.specs.Layout.{most_bytes}
use Rattle.stroke.specs.Reading.{decode}
use Rattle.stroke.specs.Writing.{encode}
use Rattle.writing.specs.Lending.{sized, within_limits}

-- the length in bytes, or refused by the number of samples, then by a count, then for want of room
abbrev pub written : Contents → ℕ → Result ℕ LentFault
written c room =
    result_and (sized c) (result_and (within_limits c)
    (cond (nat_lt room (length (encode c))) (Err Room) (Ok (length (encode c)))))

-- what is lent for the file holds it in front and stays as it was behind it; after a refusal all of it stays
abbrev pub after_writing : Contents → List ℕ → List ℕ
after_writing c out = cond (is_ok (written c (length out))) (encode c ++ drop (length (encode c)) out) out

-- the first n bytes of out, behind any notes that fit, are read as the stroke c
abbrev pub ReadAs : Contents → List ℕ → ℕ → Type 0
ReadAs c out n = (notes : List ℕ) → length notes + n ≤ most_bytes → decode (notes ++ take n out) ≡ Ok c

-- bs is notes, then the n bytes that write leaves of the stroke c wherever there is room for them
pub record NotesThenWritten (c : Contents) (bs : List ℕ) : Type 0 where
  pub notes : List ℕ
  pub n : ℕ
  pub answer : (room : ℕ) → n ≤ room → written c room ≡ Ok n
  pub is : (out : List ℕ) → n ≤ length out → bs ≡ notes ++ take n (after_writing c out)

-- every file that is granted is notes, then what write would write of the stroke that is read
abbrev pub GrantedAsWritten : Type 0
GrantedAsWritten = (bs : List ℕ) (c : Contents) → AllByRecursion (λ b. b < 256) bs → decode bs ≡ Ok c → NotesThenWritten c bs

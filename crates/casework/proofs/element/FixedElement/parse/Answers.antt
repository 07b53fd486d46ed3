use Rattle.std.proofs.Common.{Ok, ◌∙◌, w32, SFits, rules}
use Rattle.std.specs.Fmt.{signed_decimal}
use Rattle.std.proofs.lemmas.Int.{to_z-of_z}
use Rattle.casework.proofs.Words.{signed_lacks, signed_is, signed_stands}
use Rattle.casework.proofs.element.FixedElement.parse.Goals as goal

pub returns-in_err-parse : goal.returns-in_err-parse
returns-in_err-parse c = record {
  read = λ x small is.
      let words = c.pair.ensures.answer (signed_decimal x.x) (signed_decimal x.y) (signed_lacks x.x small.0) is in
      absurd (signed_stands x.x _ small.0 words.0 c.in_err-parse.field-0 c.in_err-parse.ensures.value.0);
}

pub returns-in_err-parse-2 : goal.returns-in_err-parse-2
returns-in_err-parse-2 c = record {
  read = λ x small is.
      let words = c.pair.ensures.answer (signed_decimal x.x) (signed_decimal x.y) (signed_lacks x.x small.0) is in
      absurd (signed_stands x.y _ small.1 words.1 c.in_err-parse-2.field-0 c.in_err-parse-2.ensures.value.0);
}

pub returns : goal.returns
returns c =
    let fx : SFits w32 c.in_ok-parse.field-0 = search rules in
    let fy : SFits w32 c.in_ok-parse-2.field-0 = search rules in
    record {
      read = λ x small is.
          let words = c.pair.ensures.answer (signed_decimal x.x) (signed_decimal x.y) (signed_lacks x.x small.0) is in
          let first = to_z-of_z w32 c.in_ok-parse.field-0 fx ∙ signed_is x.x _ small.0 words.0 c.in_ok-parse.field-0 c.in_ok-parse.ensures.value.0 in
          let second = to_z-of_z w32 c.in_ok-parse-2.field-0 fy ∙ signed_is x.y _ small.1 words.1 c.in_ok-parse-2.field-0 c.in_ok-parse-2.ensures.value.0 in
          λ i. Ok (record { x = first i; y = second i });
    }

use Rattle.std.proofs.Common.{decimal, Ok}
use Rattle.casework.proofs.Words.{number_lacks, word_is, word_stands}
use Rattle.casework.proofs.element.PathElement.parse.Goals as goal

pub returns-in_err-parse : goal.returns-in_err-parse
returns-in_err-parse c = record {
  read = λ x small is.
      let words = c.pair.ensures.answer (decimal x.u) (decimal x.v) (number_lacks x.u small.0) is in
      absurd (word_stands x.u _ small.0 words.0 c.in_err-parse.field-0 c.in_err-parse.ensures.value.0);
}

pub returns-in_err-parse-2 : goal.returns-in_err-parse-2
returns-in_err-parse-2 c = record {
  read = λ x small is.
      let words = c.pair.ensures.answer (decimal x.u) (decimal x.v) (number_lacks x.u small.0) is in
      absurd (word_stands x.v _ small.1 words.1 c.in_err-parse-2.field-0 c.in_err-parse-2.ensures.value.0);
}

pub returns : goal.returns
returns c = record {
  read = λ x small is.
      let words = c.pair.ensures.answer (decimal x.u) (decimal x.v) (number_lacks x.u small.0) is in
      let u = word_is x.u _ small.0 words.0 c.in_ok-parse.field-0 c.in_ok-parse.ensures.value.0 in
      let v = word_is x.v _ small.1 words.1 c.in_ok-parse-2.field-0 c.in_ok-parse-2.ensures.value.0 in
      λ i. Ok (record { u = u i; v = v i });
}

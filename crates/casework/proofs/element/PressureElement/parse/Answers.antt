use Rattle.std.proofs.Common.{Ok, ap}
use Rattle.casework.proofs.Words.{word_is, word_stands}
use Rattle.casework.proofs.element.PressureElement.parse.Goals as goal

pub returns-in_err-parse : goal.returns-in_err-parse
returns-in_err-parse c = record { read = λ x small is. absurd (word_stands x.word c.args.text.now small is c.in_err-parse.field-0 c.in_err-parse.ensures.value.0) }

pub returns : goal.returns
returns c = record { read = λ x small is. ap (λ n. Ok (record { word = n })) (word_is x.word c.args.text.now small is c.in_ok-parse.field-0 c.in_ok-parse.ensures.value.0) }

-- What a call comes to for C: a status of three numbers, an answer that is written out, and lists that are lent.
use Rattle.std.specs.Prelude.{List, ◌++◌, length, drop, Ok, Err, Result}
use Rattle.refusal.specs.declared.Fault.{Fault}
use Rattle.refusal.specs.Faults.{number_of, layer_of, place_of, layer_number}
use Rattle.crossing.specs.declared.status.Status.{Status}

-- the status of a call that is granted
abbrev pub granted : Status
granted = record { number = 0; layer = 0; place = 0 }

-- the status of a call that is refused
abbrev pub refused : Fault → Status
refused f = record { number = number_of f; layer = layer_number (layer_of f); place = place_of f }

-- the status of a call by its result
abbrev pub status_of : {X : Type 0} → Result X Fault → Status
status_of (Ok x) = granted
status_of (Err f) = refused f

-- what lies where the answer goes: the answer, or what was there where the call is refused
abbrev pub answer_or : {X : Type 0} → X → Result X Fault → X
answer_or old (Ok x) = x
answer_or old (Err f) = old

-- a list at the front of what is lent for it, which behind it is as it was
abbrev pub in_front : {X : Type 0} → Result (List X) Fault → List X → List X
in_front (Ok xs) old = xs ++ drop (length xs) old
in_front (Err f) old = old

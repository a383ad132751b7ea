-- What a run question gives, by its answer.
use Rattle.std.specs.Prelude.{◌≡◌, Result}
use Rattle.refusal.specs.declared.Refusal.{Refusal}
use Rattle.refusal.specs.Answer.{Answer, result_of}
use Rattle.rules.specs.Call.{Wire}
use Rattle.record.specs.declared.Wire as given

-- a node's value and its next change, as a value
abbrev pub wire_given : Wire → given.Wire
wire_given w = record { value = w.value; change = w.change }

pub record AskedAs (answer : Answer Wire) (result : Result given.Wire Refusal) : Type 0 where
  pub result_is : result ≡ result_of wire_given answer

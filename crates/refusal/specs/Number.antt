-- Document 01, "Numbers given to the editor", and 11 of document 02's wish 3: the number of each refusal, by its trade word. 0 is no refusal.
use Rattle.std.specs.Prelude.{ℕ, ⊤, Result, Ok, Err}
use Rattle.refusal.specs.declared.Refusal.{Refusal}
use Rattle.refusal.specs.declared.Refusal.TheVariants.{Length, Header, Chain, Record, Order, Full, Unsound, Buffer, Question, Finished, Ceiling}

abbrev pub refusal_number : Refusal → ℕ
refusal_number Length = 1
refusal_number Header = 2
refusal_number Chain = 3
refusal_number Record = 4
refusal_number Order = 5
refusal_number Full = 6
refusal_number Unsound = 7
refusal_number Buffer = 8
refusal_number Question = 9
refusal_number Finished = 10
refusal_number Ceiling = 11

-- the answer of a call that gives nothing besides
abbrev pub Reply : Type 0
Reply = Result ⊤ Refusal

abbrev pub reply_number : Reply → ℕ
reply_number (Ok done) = 0
reply_number (Err why) = refusal_number why

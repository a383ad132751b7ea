-- An answer in the definitions: a refusal, or the value that the call gives.
use Rattle.std.specs.Prelude.{ℕ, Bool, true, false, Result, Ok, Err}
use Rattle.refusal.specs.declared.Refusal.{Refusal}
use Rattle.refusal.specs.Number.{refusal_number, Reply}

pub data Answer (A : Type 0) : Type 0 where
  refused : Refusal → Answer A
  answered : A → Answer A

-- go on where the test holds, else refuse: the order of the checks is the order in which they are written
abbrev pub check : {A : Type 0} → Bool → Refusal → Answer A → Answer A
check true why next = next
check false why next = refused why

-- the number that the editor is given
abbrev pub answer_number : {A : Type 0} → Answer A → ℕ
answer_number (refused why) = refusal_number why
answer_number (answered a) = 0

-- whether a reply is a refusal
abbrev pub refuses : Reply → Bool
refuses (Ok done) = false
refuses (Err why) = true

-- the same answer as a call's result, with what the call gives for the value
abbrev pub result_of : {A B : Type 0} → (A → B) → Answer A → Result B Refusal
result_of f (refused why) = Err why
result_of f (answered a) = Ok (f a)

-- the same answer without its value
abbrev pub reply_of : {A : Type 0} → Answer A → Reply
reply_of (refused why) = Err why
reply_of (answered a) = Ok tt

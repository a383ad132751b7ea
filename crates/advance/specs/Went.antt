-- What a task leaves, by its answer: a refusal gives no run, and leaves the table as it was.
use Rattle.std.specs.Prelude.{◌≡◌, cond, length, replicate, eqb, Result}
use Rattle.refusal.specs.declared.Refusal.{Refusal}
use Rattle.refusal.specs.declared.Refusal.TheVariants.{Buffer}
use Rattle.refusal.specs.Number.{refusal_number}
use Rattle.refusal.specs.Answer.{Answer, refused, answered, answer_number, result_of}
use Rattle.diagram.specs.Call.{Columns, columns_of}
use Rattle.rules.specs.Run.{Moment}
use Rattle.record.specs.declared.Run.{Run}
use Rattle.record.specs.Record.{record_of}

-- the run of a moment, as a value: its places past the node records are zero
abbrev pub run_given : Moment → Run
run_given moment = record_of moment.run

-- the record's places past the node records are zero after an answer
abbrev pub run_after : Run → Answer Moment → Run
run_after r (refused why) = r
run_after r (answered m) = record_of m.run

abbrev pub table_after : Columns → Answer Moment → Columns
table_after table (refused why) = table
table_after table (answered m) = columns_of (length table.letter) m.table

-- columns of zeros, as long as others
abbrev pub zeroed : Columns → Columns
zeroed c = record {
  letter = replicate (length c.letter) 0;
  low = replicate (length c.low) 0;
  high = replicate (length c.high) 0;
}

-- after 8 nothing is touched; after every other answer working is zero
abbrev pub working_after : Columns → Answer Moment → Columns
working_after working answer = cond (eqb (answer_number answer) (refusal_number Buffer)) working (zeroed working)

-- the table before and after, the answer, and the result
pub record WentAs (before after : Columns) (answer : Answer Moment) (result : Result Run Refusal) : Type 0 where
  pub result_is : result ≡ result_of run_given answer
  pub table_is : after ≡ table_after before answer

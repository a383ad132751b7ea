-- What a program prints that writes the file of a cell: the file to standard output, or the refusal to standard error.
use Rattle.std.specs.Prelude.{◌≡◌, List, [], ℕ, ◌+◌, ◌≤◌, length, take, Result, Ok, Err}
use Rattle.refusal.specs.declared.Refusal.{Refusal}
use Rattle.refusal.specs.Answer.{Answer, refused, answered}
use Rattle.format.specs.Circuit.{Circuit}
use Rattle.format.specs.Legal.{most_nodes, most_transistors, most_entries}
use Rattle.format.specs.File.{record_at}
use Rattle.format.specs.Saved.{saved_file}
use Rattle.fields.specs.Line.{refused_line}
use Rattle.output.specs.declared.Printed.{Printed}

abbrev pub saved_output : Answer Circuit → List ℕ
saved_output (refused why) = []
saved_output (answered c) = saved_file c

abbrev pub saved_errors : Answer Circuit → List ℕ
saved_errors (refused why) = refused_line why
saved_errors (answered c) = []

-- no cell's file is longer
abbrev pub most_bytes : ℕ
most_bytes = record_at (1 + most_nodes + most_transistors + most_entries)

-- what goes to standard output and to standard error, and the two buffers that hold it
pub record Prints (output messages : List ℕ) (out errors : List ℕ) (given : Printed) : Type 0 where
  pub output_is : take given.output out ≡ output
  pub output_fits : given.output ≤ length out
  pub errors_are : take given.errors errors ≡ messages
  pub errors_fit : given.errors ≤ length errors

-- how many bytes a call saved: none with a refusal
abbrev pub saved_count : Result ℕ Refusal → ℕ
saved_count (Ok bytes) = bytes
saved_count (Err why) = 0

-- its refusal as a line: nothing where there is none
abbrev pub reply_line : Result ℕ Refusal → List ℕ
reply_line (Ok bytes) = []
reply_line (Err why) = refused_line why

-- what is printed of a call that saved into another buffer: so many of its bytes, and its refusal
pub record SavingPrinted (saving : Result ℕ Refusal) (errors : List ℕ) (given : Printed) : Type 0 where
  pub output_is : given.output ≡ saved_count saving
  pub errors_are : take given.errors errors ≡ reply_line saving
  pub errors_fit : given.errors ≤ length errors

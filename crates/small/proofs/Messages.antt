-- What the buffers hold of a message, and what each kind of argument leaves.
use mathlib.Core.Path.{◌≡◌, refl}
use mathlib.Core.List.{List, []}
use Prim.Native.Nat.{ℕ}
use native.Mathlib.Omega.{arith}
use Rattle.refusal.specs.declared.Refusal.TheVariants.{Question}
use Rattle.std.specs.Prelude.{Err, Result}
use Rattle.refusal.specs.Answer.{refused}
use Rattle.text.specs.declared.ParseError.{ParseError}
use Rattle.fields.specs.Line.{refused_line}
use Rattle.output.specs.declared.Printed.{Printed}
use Rattle.output.specs.Printed.{Prints, SavingPrinted}
use Rattle.small.specs.Asked.{small_output, small_errors, Message}

-- a refusal
pub refusal_message : (errors : List ℕ) (r : Printed) → SavingPrinted (Err Question) errors r → Message (refused_line Question) errors r
refusal_message errors r p = record { none = p.output_is; is = p.errors_are; fits = p.errors_fit }

-- nothing goes to standard output with a message
pub message_prints : (line out errors : List ℕ) (r : Printed) → Message line errors r → Prints [] line out errors r
message_prints line out errors r m = record { output_is = rw m.none refl; output_fits = omega (arith, m.none); errors_are = m.is; errors_fit = m.fits }

-- by the argument
pub prints_as : (a b : Result ℕ ParseError) (out errors : List ℕ) (r : Printed) → a ≡ b → Prints (small_output a) (small_errors a) out errors r → Prints (small_output b) (small_errors b) out errors r
prints_as a b out errors r e p = rw e at p

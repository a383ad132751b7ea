-- A table length that an argument names is in its range.
use mathlib.Core.Path.{◌≡◌, refl}
use mathlib.Core.Bool.{Bool, true, false, ◌&&◌, cond}
use mathlib.Core.List.{List}
use Prim.Native.Nat.{ℕ, ◌≤◌}
use lib.Dec.{leb}
use borrow.Author.Tests.{leb-true}
use Rattle.lists.proofs.Cases.{and_right}
use Rattle.std.specs.Prelude.{Option, Some, None, IfSome, Result, Ok, Err}
use Rattle.diagram.specs.Held.{least_entries, most_entries}
use Rattle.text.specs.declared.ParseError.{ParseError}
use Rattle.text.specs.Number.{parsed}
use Rattle.listing.specs.Argument.{parsed_length, LengthAs}

most_by : (n : ℕ) (within : Bool) → (within ≡ true → n ≤ most_entries) → IfSome (cond within (Some n) None) (λ m. m ≤ most_entries)
most_by n true h = h refl
most_by n false h = tt

length_most : (p : Result ℕ ParseError) → IfSome (parsed_length p) (λ m. m ≤ most_entries)
length_most (Ok n) = most_by n (leb least_entries n && leb n most_entries) (λ e. leb-true n most_entries (and_right (leb least_entries n) (leb n most_entries) e))
length_most (Err why) = tt

pub length_as : {text : List ℕ} {length : Option ℕ} → length ≡ parsed_length (parsed text) → LengthAs text length
length_as {text} e = record { is = e; most = rw e (length_most (parsed text)) }

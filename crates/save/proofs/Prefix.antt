-- The 4,096 bytes that the program reads are enough: what is left of a longer input changes nothing that it writes.
use mathlib.Core.Path.{◌≡◌, ap}
use mathlib.Core.List.{List}
use Prim.Native.Nat.{ℕ}
use native.Mathlib.Omega.{arith}
use lib.ListN.{take}
use Rattle.format.specs.File.{read_cell}
use Rattle.fields.proofs.Prefix.{read_prefix}
use Rattle.output.specs.Printed.{saved_output, saved_errors}

pub printed_prefix : (file : List ℕ)
    → (saved_output (read_cell (take 4096 file)) ≡ saved_output (read_cell file)) × (saved_errors (read_cell (take 4096 file)) ≡ saved_errors (read_cell file))
printed_prefix file = let e = read_prefix 4096 file (omega arith) in (ap saved_output e, ap saved_errors e)

-- `parse` meets its contract. Invariant: the bytes from i on, behind the value so far, decide.
use mathlib.Core.Path.{◌≡◌}
use Prim.Native.Nat.{◌*◌, ◌^◌, ◌<◌}
use lib.ListN.{drop}
use Rattle.text.specs.Number.{parsed_from, parsed}
use Rattle.text.proofs.parse.Given as goal

abbrev pub invariant-loop-byte : goal.invariant-loop-byte
invariant-loop-byte l = (l.value < 10 * 2 ^ 32) × (parsed_from l.value (drop l.byte-index l.text) ≡ parsed l.text)

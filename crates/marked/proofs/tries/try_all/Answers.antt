-- `try_all` meets its contract: there are two numbers for each entry that working can have. Assumes nothing.
use mathlib.Core.Path.{sym}
use Prim.Native.Nat.{ℕ}
use native.Mathlib.Omega.{arith}
use lib.ListN.{length-replicate}
use Rattle.attempt.proofs.First.{legal_roomy}
use Rattle.marked.proofs.tries.try_all.Goals as goal

pub slice_bounds-try_in-end : goal.slice_bounds-try_in-end
slice_bounds-try_in-end c = sym (length-replicate {A = ℕ} 131072 0)

pub try_in-requires : goal.try_in-requires
try_in-requires c = record { laid = (c.requires.laid.0, c.requires.laid.1, legal_roomy c.requires.laid.2 (omega (arith, length-replicate {A = ℕ} 131072 0))); value_entries = c.requires.value_entries }

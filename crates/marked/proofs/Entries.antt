-- The entries of all nodes for one step, and columns of the same lengths.
use mathlib.Core.Path.{◌≡◌, refl}
use mathlib.Core.List.{List}
use mathlib.Core.Bool.{true}
use Prim.Native.Nat.{ℕ}
use lib.ListN.{length}
use Rattle.diagram.specs.Table.{Table}
use Rattle.diagram.specs.Call.{columns, lengths_legal}
use Rattle.table.specs.Holds.{Lent}
use Rattle.table.proofs.Entering.{lent_legal, lent_again as lent_same}
use Rattle.stir.specs.Pending.{PendingEntries}
use Rattle.marked.specs.Changes.{ValueEntries}

-- columns of the same lengths
pub record SameLengths (l₀ w₀ h₀ ix₀ l w h ix : List ℕ) : Type 0 where
  pub letter_long : length l ≡ length l₀
  pub low_long : length w ≡ length w₀
  pub high_long : length h ≡ length h₀
  pub index_long : length ix ≡ length ix₀

pub lent_again : {l₀ w₀ h₀ ix₀ l w h ix : List ℕ} → SameLengths l₀ w₀ h₀ ix₀ l w h ix → Lent l₀ w₀ h₀ ix₀ → Lent l w h ix
lent_again e s = lent_same s e.letter_long e.low_long e.high_long e.index_long

-- they are of legal lengths, whatever their index
pub legal_again : {l₀ w₀ h₀ ix₀ : List ℕ} (l w h : List ℕ) → Lent l₀ w₀ h₀ ix₀ → length l ≡ length l₀ → length w ≡ length w₀ → length h ≡ length h₀ → lengths_legal (columns l w h) ≡ true
legal_again {ix₀ = ix₀} l w h s a b c = lent_legal {l = l} {w = w} {h = h} {ix = ix₀} (lent_same s a b c refl)

-- the values and pending changes of all nodes
pub record StepEntries (k : ℕ) (t : Table) (used : ℕ) (before after pending : List ℕ) : Type 0 where
  pub first : ValueEntries k t used before
  pub second : ValueEntries k t used after
  pub third : PendingEntries used pending

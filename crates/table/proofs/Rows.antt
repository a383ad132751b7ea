-- Rows of lent columns, read number by number.
use mathlib.Core.Path.{◌≡◌, ap}
use mathlib.Core.List.{List}
use mathlib.Core.Bool.{◌&&◌}
use Prim.Native.Nat.{ℕ}
use lib.ListN.{length, get_or}
use lib.Dec.{eqb}
use Rattle.diagram.specs.Table.{Entry, branch, entry_at, same}
use Rattle.diagram.specs.Held.{entries}
use Rattle.diagram.proofs.Held.{entries_at}

module _ (l w h : List ℕ) (i k a b : ℕ) (p : length w ≡ length l) (q : length h ≡ length l) where
  pub row_same : same (entry_at (entries l w h) i) (branch k a b) ≡ (eqb (get_or l i 0) k && eqb (get_or w i 0) a && eqb (get_or h i 0) b)
  row_same = ap (λ (x : Entry). same x (branch k a b)) (entries_at l w h p q i)

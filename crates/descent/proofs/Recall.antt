-- The memo of a descent: roots that were met before, and those of a branch that was stored.
use mathlib.Core.Path.{◌≡◌}
use mathlib.Core.List.{List}
use mathlib.Core.Bool.{false}
use Prim.Native.Nat.{ℕ, ◌-◌, ◌<◌}
use Rattle.diagram.specs.Table.{Table}
use Rattle.diagram.specs.Store.{store}
use Rattle.diagram.specs.Held.{held}
use Rattle.net.specs.Net.{net_circuit}
use Rattle.table.specs.declared.Put.{Put}
use Rattle.table.specs.declared.Stop.TheVariants.{Going}
use Rattle.table.specs.Stop.{stopped}
use Rattle.table.specs.Holds.{Outcome}
use Rattle.table.proofs.Outcomes.{put}
use Rattle.functions.specs.Open.{Open}
use Rattle.descent.specs.Settle.{settled_by}
use Rattle.descent.specs.Piece.{Narrowed}
use Rattle.descent.specs.Descend.{Rooted}
use Rattle.descent.specs.Memo.{slots, Memo, Looked, Remembered}
use Rattle.descent.proofs.Going.{ready_roots, narrow_store}
use Rattle.descent.proofs.Remember.{memo_more, memo_hit, memo_after, after_open, after_small, after_means}

module _ {net : List ℕ} {n k : ℕ} {l w h : List ℕ} {used : ℕ} {roots : List ℕ} {left : ℕ} (r : Rooted net n k l w h used roots left) (time : ℕ)
    {l1 w1 h1 ix1 : List ℕ} {used1 : ℕ} (o : Open k l1 w1 h1 ix1 used1) where
  abbrev F : List ℕ → ℕ → ℕ
  F = settled_by (net_circuit net) time n k (held l w h used)

  abbrev t : Table
  t = held l1 w1 h1 used1

  -- what the roots settle was stored
  module _ {l2 w2 h2 ix2 : List ℕ} {p : Put}
      (o1 : Outcome (held l1 w1 h1 used1) (store k 0 (settled_by (net_circuit net) time n k (held l w h used) roots) (held l1 w1 h1 used1)) l2 w2 h2 ix2 p) where
    -- the memo is right in what the table has become
    pub stored_memo : {memo : List ℕ} → Memo (settled_by (net_circuit net) time n k (held l w h used)) k (held l1 w1 h1 used1) memo
        → stopped p.stop ≡ false → Memo (settled_by (net_circuit net) time n k (held l w h used)) k (held l2 w2 h2 p.used) memo
    stored_memo m room = memo_after o (F roots) o1 room m

    pub stored_open : stopped p.stop ≡ false → Open k l2 w2 h2 ix2 p.used
    stored_open room = after_open o (F roots) o1 room

    pub stored_small : stopped p.stop ≡ false → p.entry < 65536
    stored_small room = after_small o (F roots) o1 room

    -- and with the roots that matter and the entry
    pub kept_memo : {kept memo out : List ℕ} {slot : ℕ} → Narrowed (net_circuit net) n roots kept → stopped p.stop ≡ false
        → Memo (settled_by (net_circuit net) time n k (held l w h used)) k (held l2 w2 h2 p.used) memo → Remembered memo slot kept p.entry out
        → Memo (settled_by (net_circuit net) time n k (held l w h used)) k (held l2 w2 h2 p.used) out
    kept_memo {kept} s room m x =
        memo_more m (after_means o (F roots) o1 room F kept (λ p _. s.settles k (held l w h used) (ready_roots r) time p)) x

  -- roots that were met before
  pub hit_stored : {kept memo : List ℕ} {slot word : ℕ} → Narrowed (net_circuit net) n roots kept
      → Memo (settled_by (net_circuit net) time n k (held l w h used)) k (held l1 w1 h1 used1) memo → slot < slots → Looked memo slot kept word → (word ≡ 0 → ⊥)
      → Outcome (held l1 w1 h1 used1) (store k 0 (settled_by (net_circuit net) time n k (held l w h used) roots) (held l1 w1 h1 used1)) l1 w1 h1 ix1 (put Going (word - 1) used1)
  hit_stored s m small f node = rw (← narrow_store r s time t) (memo_hit o m small f node)

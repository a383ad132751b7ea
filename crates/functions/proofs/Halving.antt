-- One step of a recursion: the low half, the high half in what it left, and the root.
use mathlib.Core.Path.{◌≡◌, subst}
use mathlib.Core.List.{List}
use mathlib.Core.Bool.{true, false}
use Prim.Native.Nat.{ℕ, ◌-◌}
use Rattle.diagram.specs.Table.{Table}
use Rattle.diagram.specs.Store.{Stored, stored, join, both, store}
use Rattle.diagram.specs.Held.{held}
use Rattle.diagram.proofs.Sound.{Sound}
use Rattle.diagram.specs.Extends.{Extends}
use Rattle.diagram.proofs.Store.{IsStored}
use Rattle.table.specs.declared.Put.{Put}
use Rattle.table.specs.Stop.{stopped}
use Rattle.table.specs.Holds.{Holds, Outcome}
use Rattle.table.proofs.Outcomes.{holds_table, holds_again}
use Rattle.functions.specs.Open.{Open, Operand}
use Rattle.functions.proofs.Carry.{first_stored_lem, first_full, second_full, joined, legible_sound, legible_long, open_next, operand_next}

-- `f` is stored by `low` and then `high` of the table, which says the same of every extension
pub record Halves (letters : ℕ) (t : Table) (m : ℕ) (f low : ℕ → ℕ) (high : Table → ℕ → ℕ) : Type 0 where
  pub halved : store letters 0 f t ≡ both m (store letters 0 low t) (λ u. store letters 0 (high t) u)
  pub stable : (u v : Table) → Extends t u → store letters 0 (high u) v ≡ store letters 0 (high t) v

module _ {letters : ℕ} {l w h ix : List ℕ} {used : ℕ} (o : Open letters l w h ix used) {m : ℕ} {f low : ℕ → ℕ} {high : Table → ℕ → ℕ}
    (g : Halves letters (held l w h used) m f low high)
    {l1 w1 h1 ix1 : List ℕ} {p : Put} (o1 : Outcome (held l w h used) (store letters 0 low (held l w h used)) l1 w1 h1 ix1 p) where
  abbrev t : Table
  t = held l w h used

  abbrev one : Stored
  one = store letters 0 low t

  abbrev two : Stored
  two = store letters 0 (high t) one.table

  sound : Sound letters t
  sound = legible_sound o.legible

  stored_one : IsStored letters letters 0 low t one
  stored_one = first_stored_lem m f low (high t) o.legible.few sound g.halved

  -- no room for the low part
  pub low_full : stopped p.stop ≡ true → Outcome (held l w h used) (store letters 0 f (held l w h used)) l1 w1 h1 ix1 p
  low_full full = first_full m f low (high t) o.legible.few sound g.halved o1 full

  -- else the columns are open again
  pub low_open : stopped p.stop ≡ false → Open letters l1 w1 h1 ix1 p.used
  low_open room = open_next o.legible.few stored_one.sound (o1.holds room)

  -- and an operand is one there
  pub low_operand : {left e : ℕ} → stopped p.stop ≡ false → Operand letters (held l w h used) used left e
      → Operand letters (held l1 w1 h1 p.used) p.used left e
  low_operand room x = operand_next (legible_long o.legible) stored_one.extends (o1.holds room) x

  module _ (room : stopped p.stop ≡ false) {l2 w2 h2 ix2 : List ℕ} {q : Put}
      (o2 : Outcome (held l1 w1 h1 p.used) (store letters 0 (high (held l1 w1 h1 p.used)) (held l1 w1 h1 p.used)) l2 w2 h2 ix2 q) where
    outcome_two : Outcome one.table two l2 w2 h2 ix2 q
    outcome_two =
        subst (λ (s : Stored). Outcome one.table s l2 w2 h2 ix2 q) (g.stable one.table one.table stored_one.extends)
        (subst (λ (u : Table). Outcome u (store letters 0 (high u) u) l2 w2 h2 ix2 q) (holds_table (o1.holds room)) o2)

    -- no room for the high part
    pub high_full : stopped q.stop ≡ true → Outcome (held l w h used) (store letters 0 f (held l w h used)) l2 w2 h2 ix2 q
    high_full full = second_full m f low (high t) o.legible.few sound g.halved outcome_two full

    -- else the columns hold both
    pub high_holds : stopped q.stop ≡ false → Holds l2 w2 h2 ix2 (held l2 w2 h2 q.used) q.used
    high_holds fits = let held : Holds l2 w2 h2 ix2 two.table q.used = outcome_two.holds fits in holds_again held

    -- and the root ends it
    pub root_done : {l3 w3 h3 ix3 : List ℕ} {r : Put} → stopped q.stop ≡ false
        → Outcome (held l2 w2 h2 q.used) (join m (stored (held l2 w2 h2 q.used) p.entry) (stored (held l2 w2 h2 q.used) q.entry)) l3 w3 h3 ix3 r
        → Outcome (held l w h used) (store letters 0 f (held l w h used)) l3 w3 h3 ix3 r
    root_done {l3} {w3} {h3} {ix3} {r} fits o3 =
        joined m f low (high t) o.legible.few sound g.halved p.entry q.entry (o1.entry room) (outcome_two.entry fits)
        (subst (λ (u : Table). Outcome u (join m (stored u p.entry) (stored u q.entry)) l3 w3 h3 ix3 r) (holds_table (outcome_two.holds fits)) o3)

-- A memo of a descent: which entry was stored for which roots.
use Rattle.std.specs.Prelude.{◌≡◌, List, ℕ, suc, ◌+◌, ◌*◌, ◌<◌, ◌≤◌, length, get_or, take, drop}
use Rattle.diagram.specs.Table.{Table}
use Rattle.functions.specs.Known.{Means}
use Rattle.net.specs.Roots.{roots_length}

-- a word for each slot, 0 where it is free, else its entry and one more; then the roots of each slot
abbrev pub slots : ℕ
slots = 277

abbrev pub memo_length : ℕ
memo_length = slots * (roots_length + 1)

-- the roots of slot s
abbrev pub slot_roots : List ℕ → ℕ → List ℕ
slot_roots memo s = take roots_length (drop (slots + roots_length * s) memo)

-- each slot is free, or its entry is what its roots settle, by F, at every pattern
pub record Memo (F : List ℕ → ℕ → ℕ) (letters : ℕ) (t : Table) (memo : List ℕ) : Type 0 where
  pub long : memo_length ≤ length memo
  pub is : (s e : ℕ) → s < slots → get_or memo s 0 ≡ suc e → Means letters t e (F (slot_roots memo s))

-- the word of a slot whose roots are these, or 0
pub record Looked (memo : List ℕ) (slot : ℕ) (roots : List ℕ) (r : ℕ) : Type 0 where
  pub word : (r ≡ 0 → ⊥) → r ≡ get_or memo slot 0
  pub key : (r ≡ 0 → ⊥) → slot_roots memo slot ≡ roots
  pub found : slot_roots memo slot ≡ roots → r ≡ get_or memo slot 0

-- a slot has new roots and their entry; the others are as before
pub record Remembered (memo : List ℕ) (slot : ℕ) (roots : List ℕ) (e : ℕ) (out : List ℕ) : Type 0 where
  pub long : memo_length ≤ length out
  pub word : get_or out slot 0 ≡ suc e
  pub key : slot_roots out slot ≡ roots
  pub other_word : (s : ℕ) → s < slots → (s ≡ slot → ⊥) → get_or out s 0 ≡ get_or memo s 0
  pub other_key : (s : ℕ) → s < slots → (s ≡ slot → ⊥) → slot_roots out s ≡ slot_roots memo s

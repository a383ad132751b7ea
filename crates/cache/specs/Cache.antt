-- A cache of an operation's results: slots of four words, three operands, then the result and one more, 0 where the slot is free.
use Rattle.std.specs.Prelude.{◌≡◌, List, ℕ, suc, ◌+◌, ◌*◌, ◌<◌, length, get_or, set}

-- the first word of slot s
abbrev pub slot_place : ℕ → ℕ
slot_place s = 4 * s

-- a place is the first word of a slot
pub record Slot (cache : List ℕ) (at : ℕ) : Type 0 where
  pub slot : ℕ
  pub first : at ≡ slot_place slot
  pub within : at + 3 < length cache

-- every result is related to its operands: `K a b c e` says that e is a result of a, b and c
pub record Cache (K : ℕ → ℕ → ℕ → ℕ → Type 0) (cache : List ℕ) : Type 0 where
  pub is : (s e : ℕ) → get_or cache (slot_place s + 3) 0 ≡ suc e → K (get_or cache (slot_place s) 0) (get_or cache (slot_place s + 1) 0) (get_or cache (slot_place s + 2) 0) e

-- what was found for three operands: nothing, or the last word of a slot that has them
pub record Looked (cache : List ℕ) (a b c r : ℕ) : Type 0 where
  pub slot : ℕ
  pub first : (r ≡ 0 → ⊥) → get_or cache (slot_place slot) 0 ≡ a
  pub second : (r ≡ 0 → ⊥) → get_or cache (slot_place slot + 1) 0 ≡ b
  pub third : (r ≡ 0 → ⊥) → get_or cache (slot_place slot + 2) 0 ≡ c
  pub result : (r ≡ 0 → ⊥) → get_or cache (slot_place slot + 3) 0 ≡ r

-- the four words of a slot
abbrev pub put : List ℕ → ℕ → ℕ → ℕ → ℕ → ℕ → List ℕ
put cache at a b c e = set (set (set (set cache at a) (at + 1) b) (at + 2) c) (at + 3) (e + 1)

-- a slot has new operands and their result; the others are as before
pub record Kept (cache : List ℕ) (a b c e : ℕ) (out : List ℕ) : Type 0 where
  pub slot : ℕ
  pub within : slot_place slot + 3 < length cache
  pub is : out ≡ put cache (slot_place slot) a b c e

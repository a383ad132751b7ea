-- What the schedule puts at a node at T, as one source byte.
use Rattle.std.specs.Prelude.{◌≡◌, List, cond, ℕ, ◌+◌, ◌*◌, ◌<◌, eqb}
use Rattle.format.specs.declared.Entry.{Entry}
use Rattle.rules.specs.Arrive.{source_at, scheduled}

-- the number for "no source"
abbrev pub no_source : ℕ
no_source = 256

-- the source that a schedule puts at node n at T, or none
pub record Due (letters : ℕ) (es : List Entry) (time n byte : ℕ) : Type 0 where
  pub legal : (byte ≡ no_source → ⊥) → byte < 2 + 2 * letters
  pub is : (p present : ℕ) → scheduled es time n p present ≡ cond (eqb byte no_source) present (source_at byte p)

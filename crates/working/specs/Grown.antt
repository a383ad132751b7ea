-- Entries of the working table by what they mean, and what a function that makes one leaves.
use Rattle.std.specs.Prelude.{◌≡◌, List, Bool, true, false, cond, ℕ, length}
use Rattle.diagram.specs.Table.{Table}
use Rattle.diagram.specs.Held.{held}
use Rattle.diagram.specs.Extends.{Extends}
use Rattle.table.specs.declared.Put.{Put}
use Rattle.table.specs.Stop.{stopped}
use Rattle.functions.specs.Open.{Open}
use Rattle.functions.specs.Known.{Means}

abbrev pub bit : Bool → ℕ
bit b = cond b 1 0

-- entry e is 1 where a test passes, else 0
abbrev pub Is : ℕ → Table → ℕ → (ℕ → Bool) → Type 0
Is letters t e test = Means letters t e (λ p. bit (test p))

-- no room: the columns hold a sound extension of the table t that takes all their rows
pub record Crowded (letters : ℕ) (t : Table) (l w h ix : List ℕ) : Type 0 where
  pub opened : Open letters l w h ix (length l)
  pub extends : Extends t (held l w h (length l))

-- the columns hold a sound extension of the table t, in which the entry has the numbers of a function; or it stopped
pub record Grown (letters : ℕ) (t : Table) (f : ℕ → ℕ) (l w h ix : List ℕ) (r : Put) : Type 0 where
  pub opened : stopped r.stop ≡ false → Open letters l w h ix r.used
  pub extends : stopped r.stop ≡ false → Extends t (held l w h r.used)
  pub means : stopped r.stop ≡ false → Means letters (held l w h r.used) r.entry f
  pub crowded : stopped r.stop ≡ true → Crowded letters t l w h ix

-- A cache beside the working table: its results are entries of it.
use Rattle.std.specs.Prelude.{List, not, ℕ, ◌≤◌, length, eqb}
use Rattle.diagram.specs.Table.{Table, number_at}
use Rattle.cache.specs.Cache.{Cache}
use Rattle.functions.specs.Known.{Means}
use Rattle.working.specs.Grown.{bit}

-- each result is an entry with the numbers of a function of its operands
pub record Known (letters : ℕ) (t : Table) (F : ℕ → ℕ → ℕ → ℕ → ℕ) (cache : List ℕ) : Type 0 where
  pub long : 4 ≤ length cache
  pub results : Cache (λ a b c e. Means letters t e (F a b c)) cache

-- the numbers of entry e of the lent table
abbrev pub brought : ℕ → Table → ℕ → ℕ → ℕ → ℕ → ℕ
brought letters lent e b c p = number_at letters lent e p

-- 1 where the numbers of entries a and b of the lent table differ, else 0
abbrev pub differing : ℕ → Table → ℕ → ℕ → ℕ → ℕ → ℕ
differing letters lent a b c p = bit (not (eqb (number_at letters lent a p) (number_at letters lent b p)))

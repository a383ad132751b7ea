-- What a cache of an operation on a table's entries knows.
use Rattle.std.specs.Prelude.{◌≡◌, List, ℕ, ◌-◌, ◌<◌, ◌≤◌, length}
use Rattle.diagram.specs.Pattern.{patterns}
use Rattle.diagram.specs.Table.{Table, number_at}
use Rattle.cache.specs.Cache.{Cache}

-- entry e has the numbers of a function
pub record Means (letters : ℕ) (t : Table) (e : ℕ) (f : ℕ → ℕ) : Type 0 where
  pub within : e < length t
  pub number : (p : ℕ) → p < patterns letters → number_at letters t e p ≡ f p

-- nothing where r is 0, else one more than an entry that has the numbers of a function
pub record Found (letters : ℕ) (t : Table) (f : ℕ → ℕ) (r : ℕ) : Type 0 where
  pub means : (r ≡ 0 → ⊥) → Means letters t (r - 1) f

-- entry e has the numbers that an operation makes of entries a, b and c
pub record Known (F : Table → ℕ → ℕ → ℕ → ℕ → ℕ) (letters : ℕ) (t : Table) (a b c e : ℕ) : Type 0 where
  pub first : a < length t
  pub second : b < length t
  pub third : c < length t
  pub means : Means letters t e (F t a b c)

-- a cache of such entries
pub record Caches (F : Table → ℕ → ℕ → ℕ → ℕ → ℕ) (letters : ℕ) (t : Table) (cache : List ℕ) : Type 0 where
  pub long : 4 ≤ length cache
  pub known : Cache (Known F letters t) cache

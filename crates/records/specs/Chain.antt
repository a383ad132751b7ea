-- What a chain's records are told by, and what is asked of record numbers.
use Rattle.std.specs.Prelude.{ℕ, ◌+◌, ◌*◌, ◌≤◌, ◌<◌, List, Some, None, length, get_or}
use Rattle.std.specs.Prelude as std
use Rattle.std.proofs.Math.Option.{Option, some, none}
use Rattle.lists.specs.Padded.{padded}

-- a chain's record numbers in 64 places, or that there is no such chain
unfoldable pub chain_found : Option (List ℕ) → std.Option (List ℕ)
chain_found none = None
chain_found (some rs) = Some (padded 64 0 rs)

-- the first n of the record numbers are those of records that lie within the file
pub record Inside (file : List ℕ) (n : ℕ) (records : List ℕ) : Type 0 where
  pub within : (i : ℕ) → i < n → 16 * get_or records i 0 + 16 ≤ length file

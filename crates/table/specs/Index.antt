-- The index: one list of an even length. Its first half has a head for each bucket, its second half a link for each entry.
use Rattle.std.specs.Prelude.{◌≡◌, List, cond, ℕ, zero, suc, ◌+◌, ◌*◌, ◌/◌, ◌%◌, ◌<◌, get_or, set, eqb}
use Rattle.diagram.specs.Table.{Entry, Table, entry_at}

abbrev pub mixed : ℕ → ℕ
mixed n = n + n / 65536

-- the upper bits are added in: terminals that are multiples of a power of two spread too
unfoldable pub bucket : ℕ → Entry → ℕ
bucket half x = mixed (x.low * 40503 + x.high * 60493 + x.letter * 9973) % half

-- one more than the last of the first n entries that is in a bucket, or 0
unfoldable pub last_in : ℕ → Table → ℕ → ℕ → ℕ
last_in half t zero b = 0
last_in half t (suc n) b = cond (eqb (bucket half (entry_at t n)) b) (suc n) (last_in half t n b)

-- the index of the first n entries: a bucket's head is its last entry, an entry's link the one before it in its bucket
pub record Indexed (half : ℕ) (t : Table) (n : ℕ) (ix : List ℕ) : Type 0 where
  pub heads : (b : ℕ) → b < half → get_or ix b 0 ≡ last_in half t n b
  pub links : (e : ℕ) → e < n → get_or ix (half + e) 0 ≡ last_in half t e (bucket half (entry_at t e))

-- the index with entry e put at the head of a bucket
abbrev pub linked : ℕ → List ℕ → ℕ → ℕ → List ℕ
linked half ix b e = set (set ix (half + e) (get_or ix b 0)) b (e + 1)

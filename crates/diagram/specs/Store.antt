-- Storing a function: its missing entries are added low part first, then high part, then its root.
use Rattle.std.specs.Prelude.{ℕ, zero, suc, ◌+◌, ◌*◌, List, [], ◌∷◌, ◌++◌, Bool, cond, length, ltb, eqb}
use Rattle.diagram.specs.Table.{Entry, Table, never, terminal, branch, same}

-- a table and an entry of it
pub record Stored : Type 0 where
  pub table : Table
  pub entry : ℕ

abbrev pub stored : Table → ℕ → Stored
stored t e = record { table = t; entry = e }

-- the first place that holds an entry, or the length
unfoldable pub find : Entry → Table → ℕ
find x [] = 0
find x (y ∷ ys) = cond (same y x) 0 (suc (find x ys))

-- the entry's place, at the end where it is missing
unfoldable pub add : Entry → Table → Stored
add x t = cond (ltb (find x t) (length t)) (stored t (find x t)) (stored (t ++ x ∷ []) (length t))

-- the function of letter k whose low part is a and whose high part is b: one entry where they agree, else the branch
unfoldable pub join : ℕ → Stored → Stored → Stored
join k a b = cond (eqb a.entry b.entry) b (add (branch k a.entry b.entry) b.table)

-- the low part, then the high part in the table that the low part left, then the root
unfoldable pub both : ℕ → Stored → (Table → Stored) → Stored
both k a high = join k a (high a.table)

-- store a function of the n letters from letter k on; bit 0 of its pattern is letter k
unfoldable pub store : ℕ → ℕ → (ℕ → ℕ) → Table → Stored
store zero k f t = add (terminal (f 0)) t
store (suc n) k f t =
    both k (store n (suc k) (λ q. f (2 * q)) t) (λ u. store n (suc k) (λ q. f (2 * q + 1)) u)

-- the fresh table: three terminals
abbrev pub fresh : Table
fresh = terminal 0 ∷ terminal 1 ∷ terminal never ∷ []

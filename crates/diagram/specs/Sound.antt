-- When a table is sound for K letters.
use Rattle.std.specs.Prelude.{ℕ, List, Bool, not, ◌&&◌, cond, length, leb, ltb, eqb}
use Rattle.lists.specs.Tests.{below}
use Rattle.diagram.specs.Table.{Entry, Table, never, terminal_letter, terminal, entry_at, same}

-- a part of entry i, which branches on letter k, is earlier and has a larger letter (a terminal's is larger than any)
abbrev pub part_legal : Table → ℕ → ℕ → ℕ → Bool
part_legal t i k e = ltb e i && ltb k (entry_at t e).letter

-- a terminal, or a branch on one of the K letters with two different parts
unfoldable pub entry_legal : ℕ → Table → ℕ → Bool
entry_legal letters t i =
    cond (eqb (entry_at t i).letter terminal_letter)
    (eqb (entry_at t i).high 0)
    (ltb (entry_at t i).letter letters
    && part_legal t i (entry_at t i).letter (entry_at t i).low
    && part_legal t i (entry_at t i).letter (entry_at t i).high
    && not (eqb (entry_at t i).low (entry_at t i).high))

-- no two entries are equal
unfoldable pub distinct : Table → Bool
distinct t = below (length t) (λ i. below i (λ j. not (same (entry_at t i) (entry_at t j))))

-- entries 0, 1 and 2 are the terminals 0, 1 and never
unfoldable pub fixed_terminals : Table → Bool
fixed_terminals t =
    leb 3 (length t)
    && same (entry_at t 0) (terminal 0)
    && same (entry_at t 1) (terminal 1)
    && same (entry_at t 2) (terminal never)

unfoldable pub sound : ℕ → Table → Bool
sound letters t = fixed_terminals t && below (length t) (entry_legal letters t) && distinct t

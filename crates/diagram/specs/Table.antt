-- A table of functions: the list of its entries, as long as the used count.
use Rattle.std.specs.Prelude.{ℕ, zero, suc, ◌/◌, ◌%◌, List, Bool, ◌&&◌, cond, get_or, eqb}

pub record Entry : Type 0 where
  pub letter : ℕ
  pub low : ℕ
  pub high : ℕ

abbrev pub Table : Type 0
Table = List Entry

-- the number for "no time": it is a terminal like any other
abbrev pub never : ℕ
never = 4294967295

-- the letter of a terminal; every letter of a branch is smaller
abbrev pub terminal_letter : ℕ
terminal_letter = 4294967295

abbrev pub terminal : ℕ → Entry
terminal n = record { letter = terminal_letter; low = n; high = 0 }

abbrev pub branch : ℕ → ℕ → ℕ → Entry
branch k low high = record { letter = k; low = low; high = high }

-- what stands past the used count
abbrev pub blank : Entry
blank = record { letter = 0; low = 0; high = 0 }

abbrev pub entry_at : Table → ℕ → Entry
entry_at t e = get_or t e blank

abbrev pub same : Entry → Entry → Bool
same a b = eqb a.letter b.letter && eqb a.low b.low && eqb a.high b.high

-- the part of entry e for a value of letter k: its low or high part where it branches on k, itself where it does not
abbrev pub part_of : Table → ℕ → ℕ → ℕ → ℕ
part_of t k bit e = cond (eqb (entry_at t e).letter k) (cond (eqb bit 1) (entry_at t e).high (entry_at t e).low) e

-- the number of entry e over the n letters from letter k on; bit 0 of the pattern is letter k
unfoldable pub number_from : ℕ → ℕ → Table → ℕ → ℕ → ℕ
number_from zero k t e p = (entry_at t e).low
number_from (suc n) k t e p = number_from n (suc k) t (part_of t k (p % 2) e) (p / 2)

-- the number of entry e at a pattern of K letters
abbrev pub number_at : ℕ → Table → ℕ → ℕ → ℕ
number_at letters t e p = number_from letters 0 t e p

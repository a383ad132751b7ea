-- What a viewer shows of a dump: it reads the bytes line by line, and of a node at a picosecond shows the last value that is not later.
use Rattle.std.specs.Prelude.{ℕ, ◌-◌, List, [], ◌∷◌, ◌++◌, Bool, ◌&&◌, cond, length, get_or, drop, ltb, eqb}
use Rattle.text.specs.Number.{value_from}
use Rattle.vcd.specs.Lines.{identifier}

-- the lines of a text, each ended by a newline; `line` is the part of the first that was read
unfoldable pub lines_in : List ℕ → List ℕ → List (List ℕ)
lines_in line [] = []
lines_in line (b ∷ bs) = cond (eqb b 10) (line ∷ lines_in [] bs) (lines_in (line ++ b ∷ []) bs)

-- a line that is a time begins with '#'; the time
abbrev pub is_time : List ℕ → Bool
is_time line = eqb (get_or line 0 0) 35

abbrev pub time_of : List ℕ → ℕ
time_of line = value_from 0 (drop 1 line)

-- a line that is a value of node n is a digit and the node's identifier; the value
abbrev pub is_value : ℕ → List ℕ → Bool
is_value n line = eqb (length line) 2 && eqb (get_or line 1 0) (identifier n)

abbrev pub value_of : List ℕ → ℕ
value_of line = get_or line 0 0 - 48

-- the value of node n at a picosecond, where it had one before these lines
unfoldable pub shown_by : ℕ → ℕ → ℕ → List (List ℕ) → ℕ
shown_by n at value [] = value
shown_by n at value (line ∷ lines) =
    cond (is_time line)
    (cond (ltb at (time_of line)) value (shown_by n at value lines))
    (shown_by n at (cond (is_value n line) (value_of line) value) lines)

-- the value that a dump's bytes show
unfoldable pub shown_at : List ℕ → ℕ → ℕ → ℕ
shown_at bytes n at = shown_by n at 0 (lines_in [] bytes)

-- The places of a step's functions in one list: a value for each node by number, rails among them, whether each transistor is kept, and
-- whether each node is a seed, an inner node at an end of a disturbed transistor; then the pending change, of one node or of every node by number.
use Rattle.std.specs.Prelude.{ℕ}

-- behind 26 values, one for each of 64 transistors
abbrev pub kept_place : ℕ
kept_place = 26

-- values and kept transistors alone
abbrev pub leaf_length : ℕ
leaf_length = 90

-- behind them one for each node
abbrev pub seeds_place : ℕ
seeds_place = 90

abbrev pub pending_place : ℕ
pending_place = 116

-- with the pending change of one node
abbrev pub roots_length : ℕ
roots_length = 117

-- with that of every node
abbrev pub all_roots_length : ℕ
all_roots_length = 142

-- entries of the lent table by which one node is worked out: values before T, values after it, its pending change; 0 past them, up to
-- the length of one node's roots
abbrev pub after_place : ℕ
after_place = 26

abbrev pub change_place : ℕ
change_place = 52

-- How long a dump can be, by the node records and the horizon; no dump is longer (laws `dump-short`, `moment-short`).
use Rattle.std.specs.Prelude.{ℕ, ◌+◌, ◌*◌}

-- all up to the first values
abbrev pub start_most : ℕ → ℕ
start_most nodes = 83 + 26 * nodes

-- a time with its changes
abbrev pub moment_most : ℕ → ℕ
moment_most nodes = 9 + 3 * nodes

-- the whole, if each picosecond has a change of every node
abbrev pub dump_most : ℕ → ℕ → ℕ
dump_most nodes horizon = start_most nodes + horizon * moment_most nodes

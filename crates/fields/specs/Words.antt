-- The words of the lines, as bytes.
use Rattle.std.specs.Prelude.{ℕ, List, [], ◌∷◌}

-- "cell "
abbrev pub cell_word : List ℕ
cell_word = 99 ∷ 101 ∷ 108 ∷ 108 ∷ 32 ∷ []

-- "refused "
abbrev pub refused_word : List ℕ
refused_word = 114 ∷ 101 ∷ 102 ∷ 117 ∷ 115 ∷ 101 ∷ 100 ∷ 32 ∷ []

-- "low\n"
abbrev pub low_word : List ℕ
low_word = 108 ∷ 111 ∷ 119 ∷ 10 ∷ []

-- "high\n"
abbrev pub high_word : List ℕ
high_word = 104 ∷ 105 ∷ 103 ∷ 104 ∷ 10 ∷ []

-- "letter "
abbrev pub letter_word : List ℕ
letter_word = 108 ∷ 101 ∷ 116 ∷ 116 ∷ 101 ∷ 114 ∷ 32 ∷ []

-- "not letter "
abbrev pub complement_word : List ℕ
complement_word = 110 ∷ 111 ∷ 116 ∷ 32 ∷ 108 ∷ 101 ∷ 116 ∷ 116 ∷ 101 ∷ 114 ∷ 32 ∷ []

-- "node "
abbrev pub node_word : List ℕ
node_word = 110 ∷ 111 ∷ 100 ∷ 101 ∷ 32 ∷ []

-- "inner "
abbrev pub inner_word : List ℕ
inner_word = 105 ∷ 110 ∷ 110 ∷ 101 ∷ 114 ∷ 32 ∷ []

-- "input "
abbrev pub input_word : List ℕ
input_word = 105 ∷ 110 ∷ 112 ∷ 117 ∷ 116 ∷ 32 ∷ []

-- "fF start "
abbrev pub start_word : List ℕ
start_word = 102 ∷ 70 ∷ 32 ∷ 115 ∷ 116 ∷ 97 ∷ 114 ∷ 116 ∷ 32 ∷ []

-- "transistor "
abbrev pub transistor_word : List ℕ
transistor_word = 116 ∷ 114 ∷ 97 ∷ 110 ∷ 115 ∷ 105 ∷ 115 ∷ 116 ∷ 111 ∷ 114 ∷ 32 ∷ []

-- "n gate "
abbrev pub n_word : List ℕ
n_word = 110 ∷ 32 ∷ 103 ∷ 97 ∷ 116 ∷ 101 ∷ 32 ∷ []

-- "p gate "
abbrev pub p_word : List ℕ
p_word = 112 ∷ 32 ∷ 103 ∷ 97 ∷ 116 ∷ 101 ∷ 32 ∷ []

-- "ends "
abbrev pub ends_word : List ℕ
ends_word = 101 ∷ 110 ∷ 100 ∷ 115 ∷ 32 ∷ []

-- "ohm\n"
abbrev pub ohm_word : List ℕ
ohm_word = 111 ∷ 104 ∷ 109 ∷ 10 ∷ []

-- "entry "
abbrev pub entry_word : List ℕ
entry_word = 101 ∷ 110 ∷ 116 ∷ 114 ∷ 121 ∷ 32 ∷ []

-- "time "
abbrev pub time_word : List ℕ
time_word = 116 ∷ 105 ∷ 109 ∷ 101 ∷ 32 ∷ []

-- " ps node "
abbrev pub at_word : List ℕ
at_word = 32 ∷ 112 ∷ 115 ∷ 32 ∷ 110 ∷ 111 ∷ 100 ∷ 101 ∷ 32 ∷ []

-- "becomes "
abbrev pub becomes_word : List ℕ
becomes_word = 98 ∷ 101 ∷ 99 ∷ 111 ∷ 109 ∷ 101 ∷ 115 ∷ 32 ∷ []

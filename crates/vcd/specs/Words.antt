-- The words of a dump, as bytes.
use Rattle.std.specs.Prelude.{ℕ, List, [], ◌∷◌}

-- "$timescale 1 ps $end\n"
abbrev pub timescale_line : List ℕ
timescale_line = 36 ∷ 116 ∷ 105 ∷ 109 ∷ 101 ∷ 115 ∷ 99 ∷ 97 ∷ 108 ∷ 101 ∷ 32 ∷ 49 ∷ 32 ∷ 112 ∷ 115 ∷ 32 ∷ 36 ∷ 101 ∷ 110 ∷ 100 ∷ 10 ∷ []

-- "$scope module cell $end\n"
abbrev pub scope_line : List ℕ
scope_line = 36 ∷ 115 ∷ 99 ∷ 111 ∷ 112 ∷ 101 ∷ 32 ∷ 109 ∷ 111 ∷ 100 ∷ 117 ∷ 108 ∷ 101 ∷ 32 ∷ 99 ∷ 101 ∷ 108 ∷ 108 ∷ 32 ∷ 36 ∷ 101 ∷ 110 ∷ 100 ∷ 10 ∷ []

-- "$var wire 1 "
abbrev pub var_word : List ℕ
var_word = 36 ∷ 118 ∷ 97 ∷ 114 ∷ 32 ∷ 119 ∷ 105 ∷ 114 ∷ 101 ∷ 32 ∷ 49 ∷ 32 ∷ []

-- " n"
abbrev pub name_word : List ℕ
name_word = 32 ∷ 110 ∷ []

-- " $end\n"
abbrev pub end_word : List ℕ
end_word = 32 ∷ 36 ∷ 101 ∷ 110 ∷ 100 ∷ 10 ∷ []

-- "$upscope $end\n"
abbrev pub upscope_line : List ℕ
upscope_line = 36 ∷ 117 ∷ 112 ∷ 115 ∷ 99 ∷ 111 ∷ 112 ∷ 101 ∷ 32 ∷ 36 ∷ 101 ∷ 110 ∷ 100 ∷ 10 ∷ []

-- "$enddefinitions $end\n"
abbrev pub defined_line : List ℕ
defined_line = 36 ∷ 101 ∷ 110 ∷ 100 ∷ 100 ∷ 101 ∷ 102 ∷ 105 ∷ 110 ∷ 105 ∷ 116 ∷ 105 ∷ 111 ∷ 110 ∷ 115 ∷ 32 ∷ 36 ∷ 101 ∷ 110 ∷ 100 ∷ 10 ∷ []

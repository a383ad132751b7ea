-- Listings computed: the bytes that document 01 prints, and two more cells.
use mathlib.Core.Path.{◌≡◌, refl}
use mathlib.Core.List.{List, [], ◌∷◌}
use Prim.Native.Nat.{ℕ}
use Rattle.lists.specs.Tests.{count_below}
use Rattle.diagram.specs.Operation.{count}
use Rattle.rules.proofs.Opened.{opened}
use Rattle.text.specs.Decimal.{decimal, digits_within}
use Rattle.fields.specs.Line.{cell_line, refused_line}
use Rattle.lines.specs.Listing.{listing, cell_lines, run_lines, steps_from, lines_of}

-- the inverter's file, a record to a line
abbrev inverter : List ℕ
inverter =
    2 ∷ 2 ∷ 1 ∷ 2 ∷ 232 ∷ 3 ∷ 0 ∷ 0 ∷ 1 ∷ 0 ∷ 3 ∷ 0 ∷ 5 ∷ 0 ∷ 0 ∷ 0
    ∷ 1 ∷ 0 ∷ 2 ∷ 0 ∷ 1 ∷ 2 ∷ 0 ∷ 0 ∷ 0 ∷ 0 ∷ 0 ∷ 0 ∷ 0 ∷ 0 ∷ 0 ∷ 0
    ∷ 1 ∷ 0 ∷ 0 ∷ 0 ∷ 0 ∷ 3 ∷ 50 ∷ 0 ∷ 0 ∷ 0 ∷ 0 ∷ 0 ∷ 0 ∷ 0 ∷ 0 ∷ 0
    ∷ 2 ∷ 0 ∷ 4 ∷ 0 ∷ 1 ∷ 2 ∷ 1 ∷ 3 ∷ 208 ∷ 7 ∷ 0 ∷ 0 ∷ 0 ∷ 0 ∷ 0 ∷ 0
    ∷ 2 ∷ 0 ∷ 0 ∷ 0 ∷ 0 ∷ 2 ∷ 0 ∷ 3 ∷ 232 ∷ 3 ∷ 0 ∷ 0 ∷ 0 ∷ 0 ∷ 0 ∷ 0
    ∷ 3 ∷ 0 ∷ 0 ∷ 0 ∷ 2 ∷ 4 ∷ 0 ∷ 0 ∷ 200 ∷ 0 ∷ 0 ∷ 0 ∷ 0 ∷ 0 ∷ 0 ∷ 0
    ∷ []

-- as document 01 prints it
pub inverter_listed :
    listing inverter 4096
    ≡ 99 ∷ 101 ∷ 108 ∷ 108 ∷ 32 ∷ 50 ∷ 32 ∷ 50 ∷ 32 ∷ 49 ∷ 32 ∷ 50 ∷ 32 ∷ 49 ∷ 48 ∷ 48 ∷ 48 ∷ 10
    ∷ 48 ∷ 32 ∷ 50 ∷ 32 ∷ 50 ∷ 10
    ∷ 48 ∷ 32 ∷ 51 ∷ 32 ∷ 50 ∷ 10
    ∷ 50 ∷ 48 ∷ 48 ∷ 32 ∷ 50 ∷ 32 ∷ 50 ∷ 10
    ∷ 50 ∷ 53 ∷ 48 ∷ 32 ∷ 51 ∷ 32 ∷ 49 ∷ 10
    ∷ 51 ∷ 48 ∷ 48 ∷ 32 ∷ 51 ∷ 32 ∷ 50 ∷ 10
    ∷ 101 ∷ 110 ∷ 100 ∷ 32 ∷ 51 ∷ 48 ∷ 48 ∷ 32 ∷ 51 ∷ 10
    ∷ []
unfolding opened decimal digits_within count_below count cell_line refused_line listing cell_lines run_lines steps_from lines_of
inverter_listed = refl

-- with 13 entries the step to 250 is refused
pub inverter_full :
    listing inverter 13
    ≡ 99 ∷ 101 ∷ 108 ∷ 108 ∷ 32 ∷ 50 ∷ 32 ∷ 50 ∷ 32 ∷ 49 ∷ 32 ∷ 50 ∷ 32 ∷ 49 ∷ 48 ∷ 48 ∷ 48 ∷ 10
    ∷ 48 ∷ 32 ∷ 50 ∷ 32 ∷ 50 ∷ 10
    ∷ 48 ∷ 32 ∷ 51 ∷ 32 ∷ 50 ∷ 10
    ∷ 50 ∷ 48 ∷ 48 ∷ 32 ∷ 50 ∷ 32 ∷ 50 ∷ 10
    ∷ 114 ∷ 101 ∷ 102 ∷ 117 ∷ 115 ∷ 101 ∷ 100 ∷ 32 ∷ 54 ∷ 10
    ∷ []
unfolding opened decimal digits_within count_below count cell_line refused_line listing cell_lines run_lines steps_from lines_of
inverter_full = refl

-- with 4 the start is
pub inverter_start_full :
    listing inverter 4
    ≡ 99 ∷ 101 ∷ 108 ∷ 108 ∷ 32 ∷ 50 ∷ 32 ∷ 50 ∷ 32 ∷ 49 ∷ 32 ∷ 50 ∷ 32 ∷ 49 ∷ 48 ∷ 48 ∷ 48 ∷ 10
    ∷ 114 ∷ 101 ∷ 102 ∷ 117 ∷ 115 ∷ 101 ∷ 100 ∷ 32 ∷ 54 ∷ 10
    ∷ []
unfolding opened decimal digits_within count_below count cell_line refused_line listing cell_lines run_lines steps_from lines_of
inverter_start_full = refl

-- two charges joined over 1000 ohm, from 5 to 30
abbrev share : List ℕ
share =
    3 ∷ 1 ∷ 2 ∷ 0 ∷ 50 ∷ 0 ∷ 0 ∷ 0 ∷ 1 ∷ 0 ∷ 4 ∷ 0 ∷ 5 ∷ 0 ∷ 0 ∷ 0
    ∷ 1 ∷ 0 ∷ 2 ∷ 0 ∷ 1 ∷ 0 ∷ 0 ∷ 0 ∷ 0 ∷ 0 ∷ 0 ∷ 0 ∷ 0 ∷ 0 ∷ 0 ∷ 0
    ∷ 1 ∷ 0 ∷ 3 ∷ 0 ∷ 0 ∷ 1 ∷ 30 ∷ 0 ∷ 0 ∷ 0 ∷ 0 ∷ 0 ∷ 0 ∷ 0 ∷ 0 ∷ 0
    ∷ 1 ∷ 0 ∷ 0 ∷ 0 ∷ 0 ∷ 0 ∷ 20 ∷ 0 ∷ 0 ∷ 0 ∷ 0 ∷ 0 ∷ 0 ∷ 0 ∷ 0 ∷ 0
    ∷ 2 ∷ 0 ∷ 0 ∷ 0 ∷ 0 ∷ 2 ∷ 3 ∷ 4 ∷ 232 ∷ 3 ∷ 0 ∷ 0 ∷ 0 ∷ 0 ∷ 0 ∷ 0
    ∷ 3 ∷ 0 ∷ 6 ∷ 0 ∷ 2 ∷ 1 ∷ 0 ∷ 0 ∷ 5 ∷ 0 ∷ 0 ∷ 0 ∷ 0 ∷ 0 ∷ 0 ∷ 0
    ∷ 3 ∷ 0 ∷ 0 ∷ 0 ∷ 2 ∷ 0 ∷ 0 ∷ 0 ∷ 30 ∷ 0 ∷ 0 ∷ 0 ∷ 0 ∷ 0 ∷ 0 ∷ 0
    ∷ []

-- charge alone decides, and moves 20 fF in 20 ps
pub share_listed :
    listing share 4096
    ≡ 99 ∷ 101 ∷ 108 ∷ 108 ∷ 32 ∷ 51 ∷ 32 ∷ 49 ∷ 32 ∷ 50 ∷ 32 ∷ 48 ∷ 32 ∷ 53 ∷ 48 ∷ 10
    ∷ 48 ∷ 32 ∷ 50 ∷ 32 ∷ 48 ∷ 10
    ∷ 48 ∷ 32 ∷ 51 ∷ 32 ∷ 49 ∷ 10
    ∷ 48 ∷ 32 ∷ 52 ∷ 32 ∷ 48 ∷ 10
    ∷ 53 ∷ 32 ∷ 50 ∷ 32 ∷ 49 ∷ 10
    ∷ 50 ∷ 53 ∷ 32 ∷ 52 ∷ 32 ∷ 49 ∷ 10
    ∷ 51 ∷ 48 ∷ 32 ∷ 50 ∷ 32 ∷ 48 ∷ 10
    ∷ 101 ∷ 110 ∷ 100 ∷ 32 ∷ 51 ∷ 48 ∷ 32 ∷ 51 ∷ 10
    ∷ []
unfolding opened decimal digits_within count_below count cell_line refused_line listing cell_lines run_lines steps_from lines_of
share_listed = refl

-- a file that is too short
pub short_listed : listing [] 4096 ≡ 114 ∷ 101 ∷ 102 ∷ 117 ∷ 115 ∷ 101 ∷ 100 ∷ 32 ∷ 49 ∷ 10 ∷ []
unfolding opened decimal digits_within count_below count cell_line refused_line listing cell_lines run_lines steps_from lines_of
short_listed = refl

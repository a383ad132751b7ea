-- The lines of the inverter of document 01, and a refusal.
use mathlib.Core.Path.{◌≡◌, refl}
use mathlib.Core.List.{[], ◌∷◌}
use Rattle.refusal.specs.declared.Refusal.TheVariants.{Record}
use Rattle.units.specs.Units.{ohms, femtofarads, picoseconds}
use Rattle.text.specs.Decimal.{digits_within, decimal}
use Rattle.fields.specs.Line.{cell_line, refused_line, source_end, node_line, channel_ends, transistor_line, entry_time, entry_line}

-- "cell 2 2 1 2 1000"
cell_is :
    cell_line (record { nodes = 2; transistors = 2; entries = 1; letters = 2; horizon = picoseconds 1000 })
    ≡ 99 ∷ 101 ∷ 108 ∷ 108 ∷ 32 ∷ 50 ∷ 32 ∷ 50 ∷ 32 ∷ 49 ∷ 32 ∷ 50 ∷ 32 ∷ 49 ∷ 48 ∷ 48 ∷ 48 ∷ 10 ∷ []
unfolding cell_line decimal digits_within
cell_is = refl

-- "node 2 input 0 fF start letter 0"
input_is :
    node_line 2 (record { role = 1; start = 2; capacitance = femtofarads 0 })
    ≡ 110 ∷ 111 ∷ 100 ∷ 101 ∷ 32 ∷ 50 ∷ 32 ∷ 105 ∷ 110 ∷ 112 ∷ 117 ∷ 116 ∷ 32 ∷ 48 ∷ 32 ∷ 102 ∷ 70 ∷ 32 ∷ 115 ∷ 116 ∷ 97 ∷ 114 ∷ 116 ∷ 32 ∷ 108 ∷ 101 ∷ 116 ∷ 116 ∷ 101 ∷ 114 ∷ 32 ∷ 48 ∷ 10 ∷ []
unfolding node_line source_end decimal digits_within
input_is = refl

-- "node 3 inner 50 fF start not letter 0"
inner_is :
    node_line 3 (record { role = 0; start = 3; capacitance = femtofarads 50 })
    ≡ 110 ∷ 111 ∷ 100 ∷ 101 ∷ 32 ∷ 51 ∷ 32 ∷ 105 ∷ 110 ∷ 110 ∷ 101 ∷ 114 ∷ 32 ∷ 53 ∷ 48 ∷ 32 ∷ 102 ∷ 70 ∷ 32 ∷ 115 ∷ 116 ∷ 97 ∷ 114 ∷ 116 ∷ 32 ∷ 110 ∷ 111 ∷ 116 ∷ 32 ∷ 108 ∷ 101 ∷ 116 ∷ 116 ∷ 101 ∷ 114 ∷ 32 ∷ 48 ∷ 10 ∷ []
unfolding node_line source_end decimal digits_within
inner_is = refl

-- "transistor 0 p gate 2 ends 1 3 2000 ohm"
transistor_is :
    transistor_line 0 (record { polarity = 1; gate = 2; first = 1; second = 3; resistance = ohms 2000 })
    ≡ 116 ∷ 114 ∷ 97 ∷ 110 ∷ 115 ∷ 105 ∷ 115 ∷ 116 ∷ 111 ∷ 114 ∷ 32 ∷ 48 ∷ 32 ∷ 112 ∷ 32 ∷ 103 ∷ 97 ∷ 116 ∷ 101 ∷ 32 ∷ 50 ∷ 32 ∷ 101 ∷ 110 ∷ 100 ∷ 115 ∷ 32 ∷ 49 ∷ 32 ∷ 51 ∷ 32 ∷ 50 ∷ 48 ∷ 48 ∷ 48 ∷ 32 ∷ 111 ∷ 104 ∷ 109 ∷ 10 ∷ []
unfolding transistor_line channel_ends decimal digits_within
transistor_is = refl

-- "entry 0 time 200 ps node 2 becomes letter 1"
entry_is :
    entry_line 0 (record { input = 2; source = 4; time = picoseconds 200 })
    ≡ 101 ∷ 110 ∷ 116 ∷ 114 ∷ 121 ∷ 32 ∷ 48 ∷ 32 ∷ 116 ∷ 105 ∷ 109 ∷ 101 ∷ 32 ∷ 50 ∷ 48 ∷ 48 ∷ 32 ∷ 112 ∷ 115 ∷ 32 ∷ 110 ∷ 111 ∷ 100 ∷ 101 ∷ 32 ∷ 50 ∷ 32 ∷ 98 ∷ 101 ∷ 99 ∷ 111 ∷ 109 ∷ 101 ∷ 115 ∷ 32 ∷ 108 ∷ 101 ∷ 116 ∷ 116 ∷ 101 ∷ 114 ∷ 32 ∷ 49 ∷ 10 ∷ []
unfolding entry_line entry_time source_end decimal digits_within
entry_is = refl

-- "refused 4"
refused_is :
    refused_line Record
    ≡ 114 ∷ 101 ∷ 102 ∷ 117 ∷ 115 ∷ 101 ∷ 100 ∷ 32 ∷ 52 ∷ 10 ∷ []
unfolding refused_line decimal digits_within
refused_is = refl

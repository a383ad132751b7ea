-- The line of a cell, of a refusal, and of each record: every field, a number in decimal, words between.
use Rattle.std.specs.Prelude.{ℕ, ◌%◌, ◌≤◌, List, [], ◌∷◌, ◌++◌, cond, eqb, length}
use Rattle.refusal.specs.declared.Refusal.{Refusal}
use Rattle.refusal.specs.Number.{refusal_number}
use Rattle.format.specs.declared.Header.{Header}
use Rattle.format.specs.declared.Node.{Node}
use Rattle.format.specs.declared.Transistor.{Transistor}
use Rattle.format.specs.declared.Entry.{Entry}
use Rattle.format.specs.Source.{letter_of}
use Rattle.format.specs.Legal.{inner}
use Rattle.text.specs.Decimal.{decimal, spaced, ended}
use Rattle.text.specs.Written.{Wrote}
use Rattle.fields.specs.Words.{cell_word, refused_word, low_word, high_word, letter_word, complement_word, node_word, inner_word, input_word, start_word, transistor_word, n_word, p_word, ends_word, ohm_word, entry_word, time_word, at_word, becomes_word}

-- N, M, E, K and H
unfoldable pub cell_line : Header → List ℕ
cell_line h =
    cell_word ++ spaced h.nodes ++ spaced h.transistors ++ spaced h.entries ++ spaced h.letters ++ decimal h.horizon.0 ++ 10 ∷ []

unfoldable pub refused_line : Refusal → List ℕ
refused_line why = refused_word ++ ended (refusal_number why)

-- an even source names its letter, an odd one the complement
abbrev pub letter_form : ℕ → List ℕ
letter_form source = cond (eqb (source % 2) 1) complement_word letter_word

-- the end of a line that says a source: low, high, a letter or its complement
unfoldable pub source_end : ℕ → List ℕ
source_end source =
    cond (eqb source 0) low_word
    (cond (eqb source 1) high_word
    (letter_form source ++ ended (letter_of source)))

abbrev pub role_word : ℕ → List ℕ
role_word role = cond (eqb role inner) inner_word input_word

unfoldable pub node_line : ℕ → Node → List ℕ
node_line number n =
    node_word ++ spaced number ++ role_word n.role ++ spaced n.capacitance.0 ++ start_word ++ source_end n.start

-- 0 n, 1 p
abbrev pub polarity_word : ℕ → List ℕ
polarity_word polarity = cond (eqb polarity 0) n_word p_word

-- the numbers of a transistor's two channel ends
unfoldable pub channel_ends : Transistor → List ℕ
channel_ends t = ends_word ++ spaced t.first ++ spaced t.second

unfoldable pub transistor_line : ℕ → Transistor → List ℕ
transistor_line number t =
    transistor_word ++ spaced number ++ polarity_word t.polarity ++ spaced t.gate ++ channel_ends t ++ spaced t.resistance.0 ++ ohm_word

-- when an entry comes
unfoldable pub entry_time : Entry → List ℕ
entry_time e = time_word ++ decimal e.time.0 ++ at_word

unfoldable pub entry_line : ℕ → Entry → List ℕ
entry_line number e = entry_word ++ spaced number ++ entry_time e ++ spaced e.input ++ becomes_word ++ source_end e.source

-- no line is longer
abbrev pub line_room : ℕ
line_room = 96

-- what a function that writes a line, or a part of one, leaves
pub record LineWrote (before after : List ℕ) (at : ℕ) (line : List ℕ) (end : ℕ) : Type 0 where
  pub wrote : Wrote before after at line end
  pub short : length line ≤ line_room

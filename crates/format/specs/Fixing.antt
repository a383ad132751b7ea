-- Fixing letters in a cell: source bytes change, K stays.
use Rattle.std.specs.Prelude.{ℕ, ◌+◌, ◌-◌, ◌*◌, ◌/◌, ◌%◌, List, [], ◌∷◌, map, Bool, true, false, ◌&&◌, ◌||◌, cond, leb, eqb}
use Rattle.format.specs.declared.Node.{Node}
use Rattle.format.specs.declared.Entry.{Entry}
use Rattle.format.specs.Circuit.{Circuit, every}
use Rattle.format.specs.Source.{constant, letter_of}
use Rattle.format.specs.File.{byte_at, record_size, node_kind, entry_kind}

-- what a fixing does with a letter
pub data Setting : Type 0 where
  free low high : Setting

abbrev pub Fixing : Type 0
Fixing = ℕ → Setting

-- a source that names a letter, with that letter set: an even byte is the letter itself, an odd one its complement
abbrev pub set_source : Setting → ℕ → ℕ
set_source free source = source
set_source low source = source % 2
set_source high source = 1 - source % 2

unfoldable pub fixed_source : Fixing → ℕ → ℕ
fixed_source φ source = cond (constant source) source (set_source (φ (letter_of source)) source)

abbrev pub fixed_node : Fixing → Node → Node
fixed_node φ n = record { role = n.role; start = fixed_source φ n.start; capacitance = n.capacitance }

abbrev pub fixed_entry : Fixing → Entry → Entry
fixed_entry φ e = record { input = e.input; source = fixed_source φ e.source; time = e.time }

unfoldable pub fixed : Fixing → Circuit → Circuit
fixed φ c = record {
  letters = c.letters;
  horizon = c.horizon;
  nodes = map (fixed_node φ) c.nodes;
  transistors = c.transistors;
  schedule = map (fixed_entry φ) c.schedule;
}

-- one fixing after another: the letters that the first leaves free are the second's
abbrev pub settled : Setting → Setting → Setting
settled free s = s
settled low s = low
settled high s = high

abbrev pub and_then : Fixing → Fixing → Fixing
and_then φ ψ k = settled (φ k) (ψ k)

-- Byte 5 of a node record and of a schedule entry is a source; byte i of the file is such a byte.
abbrev pub is_source : List ℕ → ℕ → Bool
is_source file i =
    leb record_size i && eqb (i % record_size) 5 && (eqb (byte_at file (i - 5)) node_kind || eqb (byte_at file (i - 5)) entry_kind)

-- the file with its source bytes fixed: the bytes bs from byte i on
unfoldable pub fixed_bytes : Fixing → List ℕ → ℕ → List ℕ → List ℕ
fixed_bytes φ file i [] = []
fixed_bytes φ file i (b ∷ bs) = cond (is_source file i) (fixed_source φ b) b ∷ fixed_bytes φ file (i + 1) bs

abbrev pub fixed_file : Fixing → List ℕ → List ℕ
fixed_file φ file = fixed_bytes φ file 0 file

-- the cell's source bytes name no letter
unfoldable pub without_letters : Circuit → Bool
without_letters c = every (λ (n : Node). constant n.start) c.nodes && every (λ (e : Entry). constant e.source) c.schedule

-- What the reader's parts ask of a file and answer of the record numbers that they are handed, as many of them as the header counts.
use Rattle.std.specs.Prelude.{◌≡◌, List, Bool, ◌&&◌, ℕ, length, take}
use Rattle.refusal.specs.Answer.{Answer}
use Rattle.format.specs.declared.Header.{Header}
use Rattle.format.specs.Circuit.{Circuit, every}
use Rattle.format.specs.File.{file_header, stated_length, node_blank, transistor_blank, entry_blank, file_circuit, read_fields}
use Rattle.records.specs.Chain.{Inside}
use Rattle.cell.specs.Counted.{Counted}

-- the file has the length that its header states
pub record Full (file : List ℕ) (h : Header) : Type 0 where
  pub header : h ≡ file_header file
  pub counted : Counted h
  pub long : length file ≡ stated_length h

-- the records of its chains lie within it
pub record Chained (file : List ℕ) (h : Header) (ns ts es : List ℕ) : Type 0 where
  pub full : Full file h
  pub nodes : Inside file h.nodes ns
  pub transistors : Inside file h.transistors ts
  pub entries : Inside file h.entries es

abbrev pub blanks_at : List ℕ → Header → List ℕ → List ℕ → List ℕ → Bool
blanks_at file h ns ts es =
    every (node_blank file) (take h.nodes ns)
    && every (transistor_blank file) (take h.transistors ts)
    && every (entry_blank file) (take h.entries es)

abbrev pub circuit_at : List ℕ → Header → List ℕ → List ℕ → List ℕ → Circuit
circuit_at file h ns ts es = file_circuit file (take h.nodes ns) (take h.transistors ts) (take h.entries es)

abbrev pub fields_at : List ℕ → Header → List ℕ → List ℕ → List ℕ → Answer Circuit
fields_at file h ns ts es = read_fields file (take h.nodes ns) (take h.transistors ts) (take h.entries es)

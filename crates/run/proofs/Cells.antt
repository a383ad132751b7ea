-- No cell is refused 8, and what reading or checking says of the cell.
use Rattle.std.proofs.Common.{Result, Ok, Err}
use Rattle.std.specs.Result.{result_and}
use mathlib.Core.Path.{◌≡◌, refl, sym}
use mathlib.Core.List.{List, map}
use mathlib.Core.Bool.{Bool, true, false, ◌&&◌}
use mathlib.Core.Option.{Option, some, none}
use Prim.Native.Nat.{ℕ}
use lib.ListN.{length}
use lib.Dec.{leb, eqb}
use Rattle.refusal.specs.declared.Refusal.{Refusal}
use Rattle.refusal.specs.declared.Refusal.TheVariants.{Length, Header, Record, Order, Buffer}
use Rattle.refusal.specs.Number.{Reply, refusal_number}
use Rattle.refusal.specs.Answer.{Answer, answered, check, answer_number, reply_of}
use Rattle.format.specs.declared.Header as header
use Rattle.format.specs.Circuit.{Circuit, header_of, every}
use Rattle.format.specs.Legal.{limits_kept, fields_legal, rising, check_circuit}
use Rattle.format.specs.File.{record_size, file_header, first_node, first_transistor, first_entry, header_legal, record_count, stated_length, node_kind, transistor_kind, entry_kind, chain, entry_at, node_blank, transistor_blank, entry_blank, file_circuit, chained, read_fields, read_chains, read_cell}
use Rattle.cell.specs.declared.Cell.{Cell}
use Rattle.cell.specs.Value.{circuit_of, reading, cell_by}
use Rattle.cell.proofs.Answers.{reading_legal, reading_refused, check_legal, check_refused}
use Rattle.run.specs.Replied.{Replied}

-- an answer is not the refusal 8
pub record Other {A : Type 0} (a : Answer A) : Type 0 where
  pub is : eqb (answer_number a) (refusal_number Buffer) ≡ false

-- what is answered is not
pub answered_other : {A : Type 0} (a : A) → Other (answered a)
answered_other a = record { is = refl }

pub check_other : {A : Type 0} (t : Bool) (why : Refusal) (next : Answer A) → eqb (refusal_number why) (refusal_number Buffer) ≡ false → Other next → Other (check t why next)
check_other true why next e n = n
check_other false why next e n = record { is = e }

chained_other : {A : Type 0} (o : Option (List ℕ)) (next : List ℕ → Answer A) → ((rs : List ℕ) → Other (next rs)) → Other (chained o next)
chained_other none next n = record { is = refl }
chained_other (some rs) next n = n rs

fields_other : (file ns ts es : List ℕ) → Other (read_fields file ns ts es)
unfolding read_fields
fields_other file ns ts es =
    check_other
    (every (node_blank file) ns && every (transistor_blank file) ts && every (entry_blank file) es && fields_legal (file_circuit file ns ts es))
    Record _ refl
    (check_other (rising (map (entry_at file) es)) Order _ refl (answered_other (file_circuit file ns ts es)))

chains_other : (file : List ℕ) (h : header.Header) → Other (read_chains file h)
unfolding read_chains
chains_other file h =
    chained_other (chain file (record_count h) node_kind h.nodes (first_node file)) _
    (λ ns. chained_other (chain file (record_count h) transistor_kind h.transistors (first_transistor file)) _
    (λ ts. chained_other (chain file (record_count h) entry_kind h.entries (first_entry file)) _
    (λ es. fields_other file ns ts es)))

-- a file is never refused 8
read_other : (file : List ℕ) → Other (read_cell file)
unfolding read_cell
read_other file =
    check_other (leb record_size (length file)) Length _ refl
    (check_other (header_legal file) Header _ refl
    (check_other (eqb (length file) (stated_length (file_header file))) Length _ refl (chains_other file (file_header file))))

-- nor is a cell by value
circuit_other : (c : Circuit) → Other (check_circuit c)
unfolding check_circuit
circuit_other c =
    check_other (limits_kept (header_of c)) Header _ refl (check_other (fields_legal c) Record _ refl (check_other (rising c.schedule) Order _ refl (answered_other c)))

-- what a reading says
pub read_replied : (file : List ℕ) (x : Result Cell Refusal) → x ≡ reading (read_cell file) → Replied x
read_replied file (Ok cell) e = record { legal = reading_legal file (Ok cell) e cell refl; other = tt }
read_replied file (Err why) e = record { legal = tt; other = rw (reading_refused file (Err why) e why refl) at (read_other file).is }

-- and a check
pub checked_replied : (cell : Cell) (reply : Reply) (x : Result Cell Refusal) → reply ≡ reply_of (check_circuit (circuit_of cell)) → x ≡ result_and reply (Ok cell) → Replied x
checked_replied cell (Ok done) x e e' = rw e' record { legal = check_legal cell (Ok done) e refl; other = tt }
checked_replied cell (Err why) x e e' = rw e' record { legal = tt; other = rw (check_refused cell (Err why) e why refl) at (circuit_other (circuit_of cell)).is }

-- whose answer is that of the check
pub checked_by : (cell : Cell) (reply : Reply) (x : Result Cell Refusal) → reply ≡ reply_of (check_circuit (circuit_of cell)) → x ≡ result_and reply (Ok cell)
    → cell_by x ≡ check_circuit (circuit_of cell)
checked_by cell (Ok done) x e e' = rw e' (sym (check_legal cell (Ok done) e refl))
checked_by cell (Err why) x e e' = rw e' (sym (check_refused cell (Err why) e why refl))

-- The reader's answer by its tests, and the cell that it gives.
use Prim.Native.Nat.{ℕ, ◌≤◌, ◌-◌}
use mathlib.Core.Path.{◌≡◌, refl, sym, ap, ◌∙◌}
use mathlib.Core.List.{List, [], ◌∷◌, ◌++◌, map}
use mathlib.Core.Bool.{Bool, true, ◌&&◌}
use mathlib.Core.Option.{Option, none}
use native.Mathlib.Omega.{arith}
use lib.ListN.{length, take, length-map, length-take, replicate}
use lib.Seq.{length-take-le}
use lib.Dec.{leb, eqb}
use Rattle.refusal.specs.declared.Refusal.TheVariants.{Length, Header, Chain, Record, Order}
use Rattle.std.specs.Prelude.{Ok}
use Rattle.refusal.specs.Answer.{answered, refused, check}
use Rattle.format.specs.declared.Header as header
use Rattle.format.specs.declared.Node.{Node}
use Rattle.format.specs.declared.Transistor.{Transistor}
use Rattle.format.specs.declared.Entry.{Entry}
use Rattle.format.specs.Circuit.{Circuit, no_node, no_transistor, no_entry}
use Rattle.format.specs.Legal.{most_nodes, most_transistors, most_entries, limits_kept, fields_legal, rising}
use Rattle.format.specs.File.{record_size, file_header, zero_bytes, header_legal, record_count, stated_length, node_kind, transistor_kind, entry_kind, first_node, first_transistor, first_entry, chain, node_at, transistor_at, entry_at, file_circuit, read_fields, read_chains, read_cell}
use Rattle.lists.proofs.Cases.{and_left}
use Rattle.lists.specs.Padded.{padded}
use Rattle.records.proofs.Linked.{Found, found_take}
use Rattle.cell.specs.declared.Cell.{Cell}
use Rattle.cell.specs.Value.{firsts, circuit_of, cell_of, reading}
use Rattle.cell.specs.Counted.{Counted}
use Rattle.cell.specs.Reader.{Full, blanks_at, circuit_at, fields_at}
use Rattle.cell.proofs.Kept.{counted}

-- A cell's value states that cell.
firsts_all : {A : Type 0} (d : A) (xs ys : List A) → firsts (length xs) d (xs ++ ys) ≡ xs
unfolding firsts
firsts_all d [] ys = refl
firsts_all d (x ∷ xs) ys = ap (λ l. x ∷ l) (firsts_all d xs ys)

firsts_padded : {A : Type 0} (m : ℕ) (d : A) (xs : List A) → firsts (length xs) d (padded m d xs) ≡ xs
firsts_padded m d xs = firsts_all d xs (replicate (m - length xs) d)

pub circuit_of_cell : (c : Circuit) → circuit_of (cell_of c) ≡ c
unfolding circuit_of cell_of
circuit_of_cell c = λ i. record {
  letters = c.letters;
  horizon = c.horizon;
  nodes = firsts_padded most_nodes no_node c.nodes i;
  transistors = firsts_padded most_transistors no_transistor c.transistors i;
  schedule = firsts_padded most_entries no_entry c.schedule i;
}

pub done : {c : Cell} (x : Circuit) → c ≡ cell_of x → Ok c ≡ reading (answered x)
unfolding reading
done x e = ap (λ (c : Cell). Ok c) e

-- The cell of the first records of three arrays.
module _ (file : List ℕ) (h : header.Header) (ns ts es : List ℕ) where
  long : {A : Type 0} (f : ℕ → A) (n : ℕ) (rs : List ℕ) → n ≤ length rs → n ≡ length (map f (take n rs))
  long f n rs l = sym (length-map (take n rs) f ∙ length-take-le n rs l)

  pub cell_read : h ≡ file_header file → h.nodes ≤ length ns → h.transistors ≤ length ts → h.entries ≤ length es
      → {nodes : List Node} {transistors : List Transistor} {schedule : List Entry}
      → nodes ≡ padded most_nodes no_node (map (node_at file) (take h.nodes ns))
      → transistors ≡ padded most_transistors no_transistor (map (transistor_at file) (take h.transistors ts))
      → schedule ≡ padded most_entries no_entry (map (entry_at file) (take h.entries es))
      → record { header = h; nodes = nodes; transistors = transistors; schedule = schedule } ≡ cell_of (circuit_at file h ns ts es)
  unfolding cell_of file_circuit
  cell_read e ln lt le pn pt ps = λ i. record {
    header = record {
      nodes = long (node_at file) h.nodes ns ln i;
      transistors = long (transistor_at file) h.transistors ts lt i;
      entries = long (entry_at file) h.entries es le i;
      letters = ap (λ (g : header.Header). g.letters) e i;
      horizon = ap (λ (g : header.Header). g.horizon) e i;
    };
    nodes = pn i;
    transistors = pt i;
    schedule = ps i;
  }

  pub read_counted : Full file h → (c : Cell) → c ≡ cell_of (circuit_at file h ns ts es) → Counted c.header
  unfolding cell_of file_circuit
  read_counted full c e =
      let k = full.counted in
      rw e (record {
        nodes = simp (length-map, length-take) (omega arith);
        transistors = simp (length-map, length-take) (omega arith);
        entries = simp (length-map, length-take) (omega arith);
        letters = omega (arith, ap (λ (g : header.Header). g.letters) full.header);
      })

  -- 4 and 5, by the cell that was made
  pub fields_by : (c : Cell) (b f : Bool) {k o : Bool} → c ≡ cell_of (circuit_at file h ns ts es) → b ≡ blanks_at file h ns ts es → f ≡ fields_legal (circuit_of c)
      → b && f ≡ k → rising (circuit_of c).schedule ≡ o
      → fields_at file h ns ts es ≡ check k Record (check o Order (answered (circuit_at file h ns ts es)))
  unfolding read_fields file_circuit
  fields_by c b f e p q r s = rw (← p, ← same_fields, ← q, r, ← same_schedule, s)
    where
      same : circuit_of c ≡ circuit_at file h ns ts es
      same = ap circuit_of e ∙ circuit_of_cell (circuit_at file h ns ts es)

      same_fields : fields_legal (circuit_of c) ≡ fields_legal (circuit_at file h ns ts es)
      same_fields = ap fields_legal same

      same_schedule : rising (circuit_of c).schedule ≡ rising (circuit_at file h ns ts es).schedule
      same_schedule = ap (λ (x : Circuit). rising x.schedule) same

-- 3
module _ (file : List ℕ) (h : header.Header) where
  abbrev pub node_chain : Option (List ℕ)
  node_chain = chain file (record_count h) node_kind h.nodes (first_node file)

  abbrev pub transistor_chain : Option (List ℕ)
  transistor_chain = chain file (record_count h) transistor_kind h.transistors (first_transistor file)

  abbrev pub entry_chain : Option (List ℕ)
  entry_chain = chain file (record_count h) entry_kind h.entries (first_entry file)

  pub no_nodes : node_chain ≡ none → read_chains file h ≡ refused Chain
  unfolding read_chains
  no_nodes e = rw e

  pub no_transistors : {ns : List ℕ} → Found node_chain ns → transistor_chain ≡ none → read_chains file h ≡ refused Chain
  unfolding read_chains
  no_transistors n e = rw (n.some_chain, e)

  pub no_entries_lem : {ns ts : List ℕ} → Found node_chain ns → Found transistor_chain ts → entry_chain ≡ none → read_chains file h ≡ refused Chain
  unfolding read_chains
  no_entries_lem n t e = rw (n.some_chain, t.some_chain, e)

  pub all_chains : {ns ts es : List ℕ} → Found node_chain ns → Found transistor_chain ts → Found entry_chain es
      → read_chains file h ≡ fields_at file h ns ts es
  unfolding read_chains
  all_chains n t e = rw (n.some_chain, t.some_chain, e.some_chain, found_take _ _ _ _ _ _ n, found_take _ _ _ _ _ _ t, found_take _ _ _ _ _ _ e)

-- 1 and 2
pub read_by : (file : List ℕ) {a b e : Bool} → leb record_size (length file) ≡ a → header_legal file ≡ b → eqb (length file) (stated_length (file_header file)) ≡ e
    → read_cell file ≡ check a Length (check b Header (check e Length (read_chains file (file_header file))))
unfolding read_cell
read_by file p q r = rw (p, q, r)

pub header_counted : (file : List ℕ) (h : header.Header) → h ≡ file_header file → header_legal file ≡ true → Counted h
unfolding header_legal
header_counted file h e p = rw e (counted (file_header file) (and_left (limits_kept (file_header file)) (zero_bytes file 2 14) p))

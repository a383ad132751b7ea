-- Laws of fixing letters in a cell: it stays legal, fixing twice is fixing once, and what fixing nothing and everything gives.
use mathlib.Core.Path.{◌≡◌, refl, sym, ◌∙◌, ap, ap₂, subst}
use mathlib.Core.Logic.{◌⊎◌, inl, inr, ⊎_elim}
use mathlib.Core.Bool.{Bool, true, ◌&&◌}
use mathlib.Core.List.{List, [], ◌∷◌, map, map-map, map-id}
use Prim.Native.Nat.{ℕ, ◌+◌, ◌-◌, ◌*◌, ◌%◌, ◌≤◌, ◌<◌}
use native.Mathlib.Omega.{arith}
use lib.ListN.{length, get_or, length-map, get_or-map}
use lib.Dec.{leb, eqb}
use borrow.Author.Tests.{ltb-true, lt-ltb, le-ltb}
use Rattle.refusal.specs.Answer.{answered}
use Rattle.format.specs.declared.Node.{Node}
use Rattle.format.specs.declared.Entry.{Entry}
use Rattle.format.specs.Circuit.{Circuit, header_of, no_node, no_entry, node_record, every}
use Rattle.format.specs.Source.{source_legal, constant, letter_of}
use Rattle.format.specs.Legal.{within, node_legal, is_input, entry_legal, before, rising_from, rising, check_circuit}
use Rattle.format.specs.Fixing.{Setting, free, low, high, Fixing, set_source, fixed_source, fixed_node, fixed_entry, fixed, settled, and_then, without_letters}
use Rattle.lists.proofs.Cases.{lt_or_ge, and_left, and_right, and_both}
use Rattle.lists.proofs.Map.{map_same}
use Rattle.format.proofs.Every.{every_at, every_of, every_map}
use Rattle.format.proofs.Check.{Checked, circuit_checked, checked_answered}
use Rattle.format.proofs.Legal.{fields_apart, fields_joined, legal_node, legal_entry}

-- a source that names no letter stays
pub fixed_constant : (φ : Fixing) (s : ℕ) → s < 2 → fixed_source φ s ≡ s
unfolding fixed_source
fixed_constant φ s h = rw (lt-ltb s 2 h)

-- a source that names a letter has that letter set
pub fixed_letter : (φ : Fixing) (s : ℕ) → 2 ≤ s → fixed_source φ s ≡ set_source (φ (letter_of s)) s
unfolding fixed_source
fixed_letter φ s h = rw (le-ltb s 2 h)

-- a letter that is set becomes a constant
pub set_constant : (t : Setting) (s : ℕ) → (t ≡ free → ⊥) → set_source t s < 2
set_constant free s n = absurd (n refl)
set_constant low s n = omega arith
set_constant high s n = omega arith

-- a source stays or becomes a constant
pub fixed_stays : (φ : Fixing) (s : ℕ) → (fixed_source φ s ≡ s) ⊎ (fixed_source φ s < 2)
fixed_stays φ s =
    ⊎_elim
    (λ (h : s < 2). inl (fixed_constant φ s h))
    (λ (h : 2 ≤ s). rw (fixed_letter φ s h) (by_setting (φ (letter_of s))))
    (lt_or_ge s 2)
  where
    by_setting : (t : Setting) → (set_source t s ≡ s) ⊎ (set_source t s < 2)
    by_setting free = inl refl
    by_setting low = inr (omega arith)
    by_setting high = inr (omega arith)

-- one fixing after another on a source is both together
pub source_twice : (φ ψ : Fixing) (s : ℕ) → fixed_source ψ (fixed_source φ s) ≡ fixed_source (and_then φ ψ) s
source_twice φ ψ s =
    ⊎_elim
    (λ (h : s < 2). rw (fixed_constant φ s h, fixed_constant ψ s h, fixed_constant (and_then φ ψ) s h))
    (λ (h : 2 ≤ s). rw (fixed_letter φ s h, fixed_letter (and_then φ ψ) s h) (by_setting h (φ (letter_of s))))
    (lt_or_ge s 2)
  where
    by_setting : 2 ≤ s → (t : Setting) → fixed_source ψ (set_source t s) ≡ set_source (settled t (ψ (letter_of s))) s
    by_setting h free = fixed_letter ψ s h
    by_setting h low = fixed_constant ψ (s % 2) (omega arith)
    by_setting h high = fixed_constant ψ (1 - s % 2) (omega arith)

-- fixings that agree below K fix a source of a cell with K letters alike
pub source_agrees : (φ ψ : Fixing) (letters s : ℕ) → ((k : ℕ) → k < letters → φ k ≡ ψ k) → s < 2 + 2 * letters → fixed_source φ s ≡ fixed_source ψ s
source_agrees φ ψ letters s agree legal =
    ⊎_elim
    (λ (h : s < 2). fixed_constant φ s h ∙ sym (fixed_constant ψ s h))
    (λ (h : 2 ≤ s). fixed_letter φ s h ∙ ap (λ (t : Setting). set_source t s) (agree (letter_of s) (omega arith)) ∙ sym (fixed_letter ψ s h))
    (lt_or_ge s 2)

-- a source of a cell whose letters are all set becomes a constant
pub source_set : (φ : Fixing) (letters s : ℕ) → ((k : ℕ) → k < letters → φ k ≡ free → ⊥) → s < 2 + 2 * letters → fixed_source φ s < 2
source_set φ letters s full legal =
    ⊎_elim
    (λ (h : s < 2). rw (fixed_constant φ s h) h)
    (λ (h : 2 ≤ s). rw (fixed_letter φ s h) (set_constant (φ (letter_of s)) s (full (letter_of s) (omega arith))))
    (lt_or_ge s 2)

-- a fixing that fixes nothing
pub source_free : (s : ℕ) → fixed_source (λ k. free) s ≡ s
source_free s = ⊎_elim (fixed_constant (λ k. free) s) (fixed_letter (λ k. free) s) (lt_or_ge s 2)

-- a node record, an entry and a cell with a function put to its sources
abbrev node_with : (ℕ → ℕ) → Node → Node
node_with f n = record { role = n.role; start = f n.start; capacitance = n.capacitance }

abbrev entry_with : (ℕ → ℕ) → Entry → Entry
entry_with f e = record { input = e.input; source = f e.source; time = e.time }

abbrev cell_with : (ℕ → ℕ) → Circuit → Circuit
cell_with f c = record {
  letters = c.letters;
  horizon = c.horizon;
  nodes = map (node_with f) c.nodes;
  transistors = c.transistors;
  schedule = map (entry_with f) c.schedule;
}

-- cells with the same letters, horizon and transistors are equal by their other lists
lists_same : (c : Circuit) {ns ns' : List Node} {es es' : List Entry} → ns ≡ ns' → es ≡ es'
    → ◌≡◌ {A = Circuit}
    (record { letters = c.letters; horizon = c.horizon; nodes = ns; transistors = c.transistors; schedule = es })
    (record { letters = c.letters; horizon = c.horizon; nodes = ns'; transistors = c.transistors; schedule = es' })
lists_same c p q = λ i. record { letters = c.letters; horizon = c.horizon; nodes = p i; transistors = c.transistors; schedule = q i }

-- functions that agree on the cell's sources give the same cell
cell_same : (f g : ℕ → ℕ) (c : Circuit)
    → ((i : ℕ) → i < length c.nodes → f (get_or c.nodes i no_node).start ≡ g (get_or c.nodes i no_node).start)
    → ((i : ℕ) → i < length c.schedule → f (get_or c.schedule i no_entry).source ≡ g (get_or c.schedule i no_entry).source)
    → cell_with f c ≡ cell_with g c
cell_same f g c p q =
    lists_same c
    (map_same (node_with f) (node_with g) no_node c.nodes (λ i h. ap (λ (s : ℕ). node_with (λ _. s) (get_or c.nodes i no_node)) (p i h)))
    (map_same (entry_with f) (entry_with g) no_entry c.schedule (λ i h. ap (λ (s : ℕ). entry_with (λ _. s) (get_or c.schedule i no_entry)) (q i h)))

cell_id : (c : Circuit) → cell_with (λ s. s) c ≡ c
cell_id c = lists_same c (map-id c.nodes) (map-id c.schedule)

cell_twice : (f g : ℕ → ℕ) (c : Circuit) → cell_with g (cell_with f c) ≡ cell_with (λ s. g (f s)) c
cell_twice f g c = lists_same c (map-map (node_with g) (node_with f) c.nodes) (map-map (entry_with g) (entry_with f) c.schedule)

-- one fixing after another is both together
pub fixed_twice : (φ ψ : Fixing) (c : Circuit) → fixed ψ (fixed φ c) ≡ fixed (and_then φ ψ) c
unfolding fixed
fixed_twice φ ψ c =
    cell_twice (fixed_source φ) (fixed_source ψ) c
    ∙ cell_same (λ s. fixed_source ψ (fixed_source φ s)) (fixed_source (and_then φ ψ)) c (λ i h. source_twice φ ψ _) (λ i h. source_twice φ ψ _)

-- fixing nothing
pub free_fixing : (c : Circuit) → fixed (λ k. free) c ≡ c
unfolding fixed
free_fixing c = cell_same (fixed_source (λ k. free)) (λ s. s) c (λ i h. source_free _) (λ i h. source_free _) ∙ cell_id c

-- a cell without letters stays
pub without_letters_fixed : (φ : Fixing) (c : Circuit) → without_letters c ≡ true → fixed φ c ≡ c
unfolding fixed without_letters
without_letters_fixed φ c e =
    let n : Node → Bool = λ m. constant m.start in
    let s : Entry → Bool = λ m. constant m.source in
    let ns = and_left (every n c.nodes) (every s c.schedule) e in
    let es = and_right (every n c.nodes) (every s c.schedule) e in
    cell_same (fixed_source φ) (λ s. s) c
    (λ i h. fixed_constant φ _ (ltb-true _ 2 (every_at n c.nodes ns no_node i h)))
    (λ i h. fixed_constant φ _ (ltb-true _ 2 (every_at s c.schedule es no_entry i h)))
    ∙ cell_id c

-- fixings that agree below K fix a legal cell alike
pub fixed_agrees : (φ ψ : Fixing) (c : Circuit) → check_circuit c ≡ answered c → ((k : ℕ) → k < c.letters → φ k ≡ ψ k) → fixed φ c ≡ fixed ψ c
unfolding fixed
fixed_agrees φ ψ c e agree =
    cell_same (fixed_source φ) (fixed_source ψ) c
    (λ i h. source_agrees φ ψ c.letters _ agree (legal_node e i h).source)
    (λ i h. source_agrees φ ψ c.letters _ agree (legal_entry e i h).source_is)

-- a legal cell with each of its letters set is without letters
pub fully_fixed_without_letters : (φ : Fixing) (c : Circuit) → check_circuit c ≡ answered c → ((k : ℕ) → k < c.letters → φ k ≡ free → ⊥) → without_letters (fixed φ c) ≡ true
unfolding fixed without_letters
fully_fixed_without_letters φ c e full =
    and_both _ _
    (every_map (λ (n : Node). constant n.start) (fixed_node φ) c.nodes
    ∙ every_of (λ (n : Node). constant (fixed_source φ n.start)) c.nodes no_node (λ i h. lt-ltb _ 2 (source_set φ c.letters _ full (legal_node e i h).source)))
    (every_map (λ (n : Entry). constant n.source) (fixed_entry φ) c.schedule
    ∙ every_of (λ (n : Entry). constant (fixed_source φ n.source)) c.schedule no_entry (λ i h. lt-ltb _ 2 (source_set φ c.letters _ full (legal_entry e i h).source_is)))

module _ (φ : Fixing) (c : Circuit) where
  -- fixing keeps counts, letters and horizon
  pub fixed_header : header_of (fixed φ c) ≡ header_of c
  unfolding fixed
  fixed_header =
      ap₂ (λ (n e : ℕ). record { nodes = n; transistors = length c.transistors; entries = e; letters = c.letters; horizon = c.horizon })
      (length-map c.nodes (fixed_node φ)) (length-map c.schedule (fixed_entry φ))

  -- the record of a node's number is fixed
  pub fixed_node_record : (n : ℕ) → node_record (fixed φ c) n ≡ fixed_node φ (node_record c n)
  unfolding fixed fixed_source
  fixed_node_record n = get_or-map (fixed_node φ) c.nodes (n - 2) no_node

  -- the entry at a place is fixed
  pub fixed_entry_at : (i : ℕ) → get_or (fixed φ c).schedule i no_entry ≡ fixed_entry φ (get_or c.schedule i no_entry)
  unfolding fixed fixed_source
  fixed_entry_at i = get_or-map (fixed_entry φ) c.schedule i no_entry

-- a legal source stays legal
pub source_legal_lem : (φ : Fixing) (letters s : ℕ) → source_legal letters s ≡ true → source_legal letters (fixed_source φ s) ≡ true
source_legal_lem φ letters s e =
    lt-ltb (fixed_source φ s) (2 + 2 * letters)
    (⊎_elim
    (λ (p : fixed_source φ s ≡ s). rw p (ltb-true s (2 + 2 * letters) e))
    (λ (p : fixed_source φ s < 2). omega arith)
    (fixed_stays φ s))

node_legal_lem : (φ : Fixing) (letters : ℕ) (n : Node) → node_legal letters n ≡ true → node_legal letters (fixed_node φ n) ≡ true
unfolding node_legal
node_legal_lem φ letters n e = and_both _ _ (source_legal_lem φ letters n.start (and_left (source_legal letters n.start) _ e)) (and_right (source_legal letters n.start) _ e)

entry_legal_lem : (φ : Fixing) (c : Circuit) (e : Entry) → entry_legal c e ≡ true → entry_legal (fixed φ c) (fixed_entry φ e) ≡ true
unfolding entry_legal fixed
entry_legal_lem φ c e q =
    let n = is_input c e.input in
    let s = source_legal c.letters e.source in
    let t = within 1 c.horizon.0 e.time.0 in
    let q2 = and_left (n && s) t q in
    and_both _ _ (and_both _ _ (subst (λ (m : Node). leb 2 e.input && eqb m.role 1 ≡ true) (sym (fixed_node_record φ c e.input)) (and_left n s q2)) (source_legal_lem φ c.letters e.source (and_right n s q2))) (and_right (n && s) t q)

-- fixing keeps the order of a schedule
rising_from_fixed : (φ : Fixing) (a : Entry) (es : List Entry) → rising_from (fixed_entry φ a) (map (fixed_entry φ) es) ≡ rising_from a es
unfolding rising_from
rising_from_fixed φ a [] = refl
rising_from_fixed φ a (b ∷ es) = ap (λ (r : Bool). before a b && r) (rising_from_fixed φ b es)

pub rising_fixed : (φ : Fixing) (es : List Entry) → rising (map (fixed_entry φ) es) ≡ rising es
unfolding rising
rising_fixed φ [] = refl
rising_fixed φ (e ∷ es) = rising_from_fixed φ e es

checked_fixed : (φ : Fixing) (c : Circuit) → Checked c → Checked (fixed φ c)
unfolding fixed
checked_fixed φ c k =
    let f = fields_apart c k.fields in
    record {
      limits = rw (fixed_header φ c) k.limits;
      fields = fields_joined (fixed φ c) (record {
        nodes = every_map (node_legal c.letters) (fixed_node φ) c.nodes
            ∙ every_of _ c.nodes no_node (λ i h. node_legal_lem φ c.letters _ (every_at (node_legal c.letters) c.nodes f.nodes no_node i h));
        transistors = rw (length-map c.nodes (fixed_node φ)) f.transistors;
        entries = every_map (entry_legal (fixed φ c)) (fixed_entry φ) c.schedule
            ∙ every_of _ c.schedule no_entry (λ i h. entry_legal_lem φ c _ (every_at (entry_legal c) c.schedule f.entries no_entry i h));
      });
      order = rising_fixed φ c.schedule ∙ k.order;
    }

-- a legal cell stays legal
pub fixed_legal : (φ : Fixing) (c : Circuit) → check_circuit c ≡ answered c → check_circuit (fixed φ c) ≡ answered (fixed φ c)
fixed_legal φ c e = checked_answered (checked_fixed φ c (circuit_checked e))

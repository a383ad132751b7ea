-- The list has every legal cell of the stated shape, none twice, in the stated order, and no other.
use mathlib.Core.Path.{◌≡◌, refl, sym, ◌∙◌, ap, subst}
use mathlib.Core.Logic.{⊎_elim}
use mathlib.Core.Bool.{true}
use mathlib.Core.List.{List, [], ◌∷◌, ◌++◌, flat_map}
use Prim.Native.Nat.{ℕ, ◌+◌, ◌*◌, ◌<◌, ◌≤◌}
use native.Mathlib.Omega.{arith}
use lib.Dec.{eqb}
use lib.ListN.{length, get_or}
use borrow.Author.Tests.{eqb-true}
use Rattle.lists.proofs.Cases.{lt_or_ge, eq_or_ne, true_false}
use Rattle.refusal.specs.Answer.{answered}
use Rattle.units.specs.declared.Picoseconds.{Picoseconds}
use Rattle.units.specs.Units.{picoseconds}
use Rattle.format.specs.declared.Node.{Node}
use Rattle.format.specs.declared.Transistor.{Transistor}
use Rattle.format.specs.declared.Entry.{Entry}
use Rattle.format.specs.Circuit.{Circuit, no_transistor, every}
use Rattle.format.specs.Legal.{limits_kept, node_legal, transistor_legal, fields_legal, rising, check_circuit}
use Rattle.format.specs.File.{read_cell}
use Rattle.format.specs.Saved.{saved_file}
use Rattle.format.proofs.Every.{every_at}
use Rattle.format.proofs.Legal.{legal_transistor}
use Rattle.format.proofs.Saved.{saved_read, saved_length}
use Rattle.catalog.specs.Lists.{listed_at, precedes}
use Rattle.catalog.specs.Small.{small_nodes, small_cell, small_cells, key_of, order_of, cell_before, Shape, Small}
use Rattle.catalog.proofs.Precedes.{precedes_not, precedes_more, precedes_behind}
use Rattle.catalog.proofs.Transistors.{Placed, transistor_found, transistor_legal_lem, transistor_one, transistor_before}
use Rattle.catalog.proofs.Cells.{transistor_at, single, pair, listed_one, listed_two, View, one, two, view}

-- cells of legal transistors of 1 ohm
module _ (t : Transistor) (l : transistor_legal 2 t ≡ true) (o : eqb t.resistance.0 1 ≡ true) where
  single_small : Small (single t)
  unfolding check_circuit limits_kept fields_legal every node_legal rising
  single_small = record {
    legal = rw l;
    shape = record { letters_is = refl; horizon_is = refl; nodes_are = refl; least = omega arith; most = omega arith; resistances_are = rw o; schedule_is = refl };
  }

  pair_small : (u : Transistor) → transistor_legal 2 u ≡ true → eqb u.resistance.0 1 ≡ true → Small (pair t u)
  unfolding check_circuit limits_kept fields_legal every node_legal rising
  pair_small u k p = record {
    legal = rw (l, k);
    shape = record { letters_is = refl; horizon_is = refl; nodes_are = refl; least = omega arith; most = omega arith; resistances_are = rw (o, p); schedule_is = refl };
  }

-- a listed cell is legal and of the stated shape
view_small : (p : ℕ) (c : Circuit) → View p c → Small c
view_small p c (one h e) = subst Small (sym e) (single_small (transistor_at p) (transistor_legal_lem p h) (transistor_one p h))
view_small p c (two q r h g place e) =
    subst Small (sym e) (pair_small (transistor_at q) (transistor_legal_lem q h) (transistor_one q h) (transistor_at r) (transistor_legal_lem r g) (transistor_one r g))

pub small_shape : (p : ℕ) (c : Circuit) → listed_at small_cells p ≡ answered c → Small c
small_shape p c e = view_small p c (view p c e)

-- a legal cell of the stated shape is listed
pub record Listed (c : Circuit) : Type 0 where
  pub place : ℕ
  pub is : listed_at small_cells place ≡ answered c

abbrev cell_with : List Transistor → ℕ → Picoseconds → List Node → List Entry → Circuit
cell_with ts letters horizon nodes schedule = record { letters = letters; horizon = horizon; nodes = nodes; transistors = ts; schedule = schedule }

shape_cell : (c : Circuit) → Shape c → c ≡ small_cell c.transistors
shape_cell c s =
    let ts = c.transistors in
    ap (λ (x : ℕ). cell_with ts x c.horizon c.nodes c.schedule) s.letters_is
    ∙ ap (λ (x : Picoseconds). cell_with ts 1 x c.nodes c.schedule) s.horizon_is
    ∙ ap (λ (x : List Node). cell_with ts 1 (picoseconds 10) x c.schedule) s.nodes_are
    ∙ ap (λ (x : List Entry). cell_with ts 1 (picoseconds 10) small_nodes x) s.schedule_is

transistor_placed_of : (ts : List Transistor) → Small (small_cell ts) → (i : ℕ) → i < length ts → Placed (get_or ts i no_transistor)
transistor_placed_of ts s i h =
    transistor_found (get_or ts i no_transistor) (legal_transistor s.legal i h)
    (eqb-true (get_or ts i no_transistor).resistance.0 1 (every_at (λ (t : Transistor). eqb t.resistance.0 1) ts s.shape.resistances_are no_transistor i h))

cell_listed : (ts : List Transistor) → Small (small_cell ts) → Listed (small_cell ts)
cell_listed [] s = absurd (omega (arith, s.shape.least))
cell_listed (t ∷ []) s =
    let a = transistor_placed_of (t ∷ []) s 0 (omega arith) in
    record { place = a.place; is = listed_one a.place a.within ∙ ap (λ (x : Transistor). answered (single x)) a.is }
cell_listed (t ∷ u ∷ []) s =
    let a = transistor_placed_of (t ∷ u ∷ []) s 0 (omega arith) in
    let b = transistor_placed_of (t ∷ u ∷ []) s 1 (omega arith) in
    record {
      place = 96 + (a.place * 96 + b.place);
      is =
          listed_two a.place b.place a.within b.within
          ∙ ap (λ (x : Transistor). answered (pair x (transistor_at b.place))) a.is
          ∙ ap (λ (x : Transistor). answered (pair t x)) b.is;
    }
cell_listed (t ∷ u ∷ v ∷ ts) s = absurd (omega (arith, s.shape.most))

pub small_listed : (c : Circuit) → Small c → Listed c
small_listed c s =
    let e = shape_cell c s.shape in
    subst Listed (sym e) (cell_listed c.transistors (subst Small e s))

-- a cell at a later place stands later in the stated order
single_before : (t u : Transistor) → precedes (key_of t) (key_of u) ≡ true → cell_before (single t) (single u) ≡ true
unfolding order_of flat_map
single_before t u h = precedes_behind (1 ∷ []) (key_of t ++ []) (key_of u ++ []) (precedes_more (key_of t) (key_of u) [] [] h)

single_pair : (t u v : Transistor) → cell_before (single t) (pair u v) ≡ true
unfolding order_of precedes
single_pair t u v = refl

pair_first : (t u v w : Transistor) → precedes (key_of t) (key_of v) ≡ true → cell_before (pair t u) (pair v w) ≡ true
unfolding order_of flat_map
pair_first t u v w h =
    precedes_behind (2 ∷ []) (key_of t ++ key_of u ++ []) (key_of v ++ key_of w ++ []) (precedes_more (key_of t) (key_of v) (key_of u ++ []) (key_of w ++ []) h)

pair_second : (t u w : Transistor) → precedes (key_of u) (key_of w) ≡ true → cell_before (pair t u) (pair t w) ≡ true
unfolding order_of flat_map
pair_second t u w h =
    precedes_behind (2 ∷ []) (key_of t ++ key_of u ++ []) (key_of t ++ key_of w ++ [])
    (precedes_behind (key_of t) (key_of u ++ []) (key_of w ++ []) (precedes_more (key_of u) (key_of w) [] [] h))

-- two pairs, the earlier first
pairs_before : (q r i j : ℕ) → q < 96 → r < 96 → i < 96 → j < 96 → q * 96 + r < i * 96 + j → cell_before (pair (transistor_at q) (transistor_at r)) (pair (transistor_at i) (transistor_at j)) ≡ true
pairs_before q r i j hq hr hi hj h =
    ⊎_elim
    (λ (same : q ≡ i). rw same (pair_second (transistor_at i) (transistor_at r) (transistor_at j) (transistor_before r j (omega arith) hj)))
    (λ (ne : q ≡ i → ⊥). pair_first (transistor_at q) (transistor_at r) (transistor_at i) (transistor_at j) (transistor_before q i (omega arith) hi))
    (eq_or_ne q i)

views_before : (p q : ℕ) (c d : Circuit) → p < q → View p c → View q d → cell_before c d ≡ true
views_before p q c d h (one hp e) (one hq f) = rw (e, f) (single_before (transistor_at p) (transistor_at q) (transistor_before p q h hq))
views_before p q c d h (one hp e) (two i j hi hj place f) = rw (e, f) (single_pair (transistor_at p) (transistor_at i) (transistor_at j))
views_before p q c d h (two i j hi hj place e) (one hq f) = absurd (omega arith)
views_before p q c d h (two i j hi hj place e) (two k l hk hl place' f) = rw (e, f) (pairs_before i j k l hi hj hk hl (omega arith))

pub small_order : (p q : ℕ) (c d : Circuit) → p < q → listed_at small_cells p ≡ answered c → listed_at small_cells q ≡ answered d → cell_before c d ≡ true
small_order p q c d h e f = views_before p q c d h (view p c e) (view q d f)

-- no cell twice
pub small_once : (p q : ℕ) (c : Circuit) → listed_at small_cells p ≡ answered c → listed_at small_cells q ≡ answered c → p ≡ q
small_once p q c e f =
    ⊎_elim
    (λ (l : p < q). true_false (cell_before c c) (small_order p q c c l e f) (precedes_not (order_of c)))
    (λ (g : q ≤ p).
    ⊎_elim
    (λ (l : q < p). true_false (cell_before c c) (small_order q p c c l f e) (precedes_not (order_of c)))
    (λ (k : p ≤ q). omega arith)
    (lt_or_ge q p))
    (lt_or_ge p q)

-- its file is read as the cell, and no longer than five records
pub small_read : (p : ℕ) (c : Circuit) → listed_at small_cells p ≡ answered c → read_cell (saved_file c) ≡ answered c
small_read p c e = saved_read c (small_shape p c e).legal

pub small_room : (p : ℕ) (c : Circuit) → listed_at small_cells p ≡ answered c → length (saved_file c) ≤ 80
small_room p c e =
    let s = (small_shape p c e).shape in
    omega (arith, saved_length c, s.most, ap length s.nodes_are, ap length s.schedule_is)

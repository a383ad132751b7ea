-- The cells by place: one transistor at places 0 to 95, then 96 cells for each first transistor of two.
use mathlib.Core.Path.{◌≡◌, sym, ◌∙◌, ap}
use mathlib.Core.Logic.{⊎_elim}
use mathlib.Core.List.{List, [], ◌∷◌, ◌++◌, map, flat_map}
use Prim.Native.Nat.{ℕ, ◌+◌, ◌-◌, ◌*◌, ◌/◌, ◌%◌, ◌<◌, ◌≤◌}
use native.Mathlib.Omega.{arith}
use lib.Dec.{eqb}
use lib.ListN.{length, get_or, length-append, length-map, get_or-append}
use lib.Seq.{get_or-append-add}
use borrow.Author.Tests.{eq-eqb}
use Rattle.lists.proofs.Cases.{lt_or_ge}
use Rattle.lists.proofs.Map.{map_at}
use Rattle.refusal.specs.declared.Refusal.TheVariants.{Question}
use Rattle.refusal.specs.Answer.{refused, answered}
use Rattle.refusal.proofs.Answer.{refused_not_answered, same_answer}
use Rattle.format.specs.declared.Transistor.{Transistor}
use Rattle.format.specs.Circuit.{Circuit, no_transistor}
use Rattle.format.proofs.Every.{every_of}
use Rattle.catalog.specs.Lists.{listed_at}
use Rattle.catalog.specs.Small.{small_transistors, small_cell, small_cells}
use Rattle.catalog.proofs.Lists.{Alike, flat_length, flat_at, listed_at_lem, listed_past}
use Rattle.catalog.proofs.Transistors.{transistors_length}

abbrev pub transistor_at : ℕ → Transistor
transistor_at k = get_or small_transistors k no_transistor

-- cells of one transistor and of two
abbrev pub single : Transistor → Circuit
single t = small_cell (t ∷ [])

abbrev pub pair : Transistor → Transistor → Circuit
pair t u = small_cell (t ∷ u ∷ [])

abbrev singles : List Circuit
singles = map single small_transistors

abbrev pairs_with : Transistor → List Circuit
pairs_with t = map (pair t) small_transistors

abbrev pairs : List Circuit
pairs = flat_map pairs_with small_transistors

-- a place past the last
abbrev no_circuit : Circuit
no_circuit = small_cell []

singles_length : length singles ≡ 96
singles_length = length-map small_transistors single ∙ transistors_length

pairs_with_length : (t : Transistor) → length (pairs_with t) ≡ 96
pairs_with_length t = length-map small_transistors (pair t) ∙ transistors_length

pairs_alike : Alike pairs_with 96 small_transistors
pairs_alike =
    every_of (λ (t : Transistor). eqb (length (pairs_with t)) 96) small_transistors no_transistor
    (λ i h. let t = transistor_at i in eq-eqb (length (pairs_with t)) 96 (pairs_with_length t))

pairs_length : length pairs ≡ 96 * 96
pairs_length = flat_length pairs_with 96 small_transistors pairs_alike ∙ ap (λ (n : ℕ). n * 96) transistors_length

pub small_length : length small_cells ≡ 9312
unfolding small_cells
small_length = length-append singles pairs ∙ omega (arith, singles_length, pairs_length)

one_at : (p : ℕ) → p < 96 → get_or small_cells p no_circuit ≡ single (transistor_at p)
unfolding small_cells
one_at p h =
    get_or-append singles pairs no_circuit p (omega (arith, singles_length)) ∙ map_at single small_transistors no_transistor no_circuit p (omega (arith, transistors_length))

two_at : (q r : ℕ) → q < 96 → r < 96 → get_or small_cells (96 + (q * 96 + r)) no_circuit ≡ pair (transistor_at q) (transistor_at r)
unfolding small_cells
two_at q r h g =
    ap (λ (n : ℕ). get_or (singles ++ pairs) (n + (q * 96 + r)) no_circuit) (sym singles_length)
    ∙ get_or-append-add singles pairs (q * 96 + r) no_circuit
    ∙ flat_at pairs_with 96 small_transistors pairs_alike q r no_transistor no_circuit (omega (arith, transistors_length)) g
    ∙ map_at (pair (transistor_at q)) small_transistors no_transistor no_circuit r (omega (arith, transistors_length))

pub listed_one : (p : ℕ) → p < 96 → listed_at small_cells p ≡ answered (single (transistor_at p))
listed_one p h = listed_at_lem no_circuit small_cells p (omega (arith, small_length)) ∙ ap answered (one_at p h)

pub listed_two : (q r : ℕ) → q < 96 → r < 96 → listed_at small_cells (96 + (q * 96 + r)) ≡ answered (pair (transistor_at q) (transistor_at r))
listed_two q r h g = listed_at_lem no_circuit small_cells (96 + (q * 96 + r)) (omega (arith, small_length)) ∙ ap answered (two_at q r h g)

pub listed_none : (p : ℕ) → 9312 ≤ p → listed_at small_cells p ≡ refused Question
listed_none p h = listed_past small_cells p (omega (arith, small_length))

-- what a place that has a cell has
pub data View (p : ℕ) (c : Circuit) : Type 0 where
  one : p < 96 → c ≡ single (transistor_at p) → View p c
  two : (q r : ℕ) → q < 96 → r < 96 → p ≡ 96 + (q * 96 + r) → c ≡ pair (transistor_at q) (transistor_at r) → View p c

pub view : (p : ℕ) (c : Circuit) → listed_at small_cells p ≡ answered c → View p c
view p c e =
    ⊎_elim
    (λ (h : p < 96). one h (same_answer (sym e ∙ listed_one p h)))
    (λ (h : 96 ≤ p).
    ⊎_elim
    (λ (g : p < 9312).
    let q = (p - 96) / 96 in
    let r = (p - 96) % 96 in
    let place : p ≡ 96 + (q * 96 + r) = omega arith in
    two q r (omega arith) (omega arith) place (same_answer (sym e ∙ ap (listed_at small_cells) place ∙ listed_two q r (omega arith) (omega arith))))
    (λ (g : 9312 ≤ p). refused_not_answered (sym (listed_none p g) ∙ e))
    (lt_or_ge p 9312))
    (lt_or_ge p 96)

-- From a place to its cell by arithmetic, as the code goes.
use mathlib.Core.Path.{◌≡◌, refl, sym, ◌∙◌, ap}
use mathlib.Core.Bool.{Bool, cond}
use mathlib.Core.List.{List, [], ◌∷◌}
use Prim.Native.Nat.{ℕ, ◌+◌, ◌-◌, ◌*◌, ◌/◌, ◌%◌, ◌<◌, ◌≤◌}
use native.Mathlib.Omega.{arith}
use lib.ListN.{length, get_or, set, replicate}
use borrow.Author.Tests.{lt-ltb, le-ltb}
use Rattle.refusal.specs.declared.Refusal.TheVariants.{Question}
use Rattle.refusal.specs.Answer.{answered}
use Rattle.format.specs.declared.Transistor.{Transistor}
use Rattle.format.specs.Circuit.{Circuit, no_transistor}
use Rattle.format.specs.Saved.{saved_in, save_cell}
use Rattle.cell.specs.Value.{firsts}
use Rattle.std.specs.Prelude.{Result, Err}
use Rattle.refusal.specs.declared.Refusal.{Refusal}
use Rattle.writer.specs.Saving.{Saves}
use Rattle.writer.proofs.Saves.{saves_refused, saves_as}
use Rattle.catalog.specs.Lists.{listed_at}
use Rattle.catalog.specs.Small.{other_ends, transistor, small_cell, small_cells, small_file}
use Rattle.catalog.proofs.Transistors.{end_at, transistor_placed}
use Rattle.catalog.proofs.Cells.{transistor_at, single, pair, listed_one, listed_two, listed_none}
use Rattle.catalog.proofs.Small.{small_shape}

-- the second end: below the first the place's number, from there on one more
pub end_low : (first place : ℕ) → first < 4 → place < 3 → place < first → place ≡ get_or (other_ends first) place 0
end_low first place h g l = sym (end_at first place h g ∙ ap (λ (b : Bool). cond b place (place + 1)) (lt-ltb place first l))

pub end_high : (first place : ℕ) → first < 4 → place < 3 → first ≤ place → place + 1 ≡ get_or (other_ends first) place 0
end_high first place h g l = sym (end_at first place h g ∙ ap (λ (b : Bool). cond b place (place + 1)) (le-ltb place first l))

-- the transistor
pub transistor_by : (k s : ℕ) → k < 96 → s ≡ get_or (other_ends (k % 48 % 12 / 3)) (k % 48 % 12 % 3) 0
    → transistor (k / 48) (k % 48 / 12) (k % 48 % 12 / 3) s ≡ transistor_at k
transistor_by k s h e =
    let place : k ≡ k / 48 * 48 + (k % 48 / 12 * 12 + (k % 48 % 12 / 3 * 3 + k % 48 % 12 % 3)) = omega arith in
    ap (transistor (k / 48) (k % 48 / 12) (k % 48 % 12 / 3)) e
    ∙ sym (transistor_placed (k / 48) (k % 48 / 12) (k % 48 % 12 / 3) (k % 48 % 12 % 3) (omega arith) (omega arith) (omega arith) (omega arith))
    ∙ ap transistor_at (sym place)

-- the cell
firsts_one : (t : Transistor) → firsts 1 no_transistor (replicate 64 t) ≡ t ∷ []
unfolding firsts
firsts_one t = refl

firsts_two : (t u : Transistor) → firsts 2 no_transistor (set (replicate 64 u) 0 t) ≡ t ∷ u ∷ []
unfolding firsts
firsts_two t u = refl

pub one_by : (p : ℕ) (t : Transistor) {c : Circuit} → p < 96 → t ≡ transistor_at p → c ≡ small_cell (firsts 1 no_transistor (replicate 64 t)) → listed_at small_cells p ≡ answered c
one_by p t h e k = listed_one p h ∙ ap (λ (x : Transistor). answered (single x)) (sym e) ∙ ap (λ (ts : List Transistor). answered (small_cell ts)) (sym (firsts_one t)) ∙ ap answered (sym k)

pub two_by : (p : ℕ) (t u : Transistor) {c : Circuit} → 96 ≤ p → p < 9312 → t ≡ transistor_at ((p - 96) / 96) → u ≡ transistor_at ((p - 96) % 96)
    → c ≡ small_cell (firsts 2 no_transistor (set (replicate 64 u) 0 t)) → listed_at small_cells p ≡ answered c
two_by p t u h g e f k =
    let q = (p - 96) / 96 in
    let r = (p - 96) % 96 in
    let place : p ≡ 96 + (q * 96 + r) = omega arith in
    ap (listed_at small_cells) place ∙ listed_two q r (omega arith) (omega arith)
    ∙ ap (λ (x : Transistor). answered (pair x (transistor_at r))) (sym e)
    ∙ ap (λ (x : Transistor). answered (pair t x)) (sym f)
    ∙ ap (λ (ts : List Transistor). answered (small_cell ts)) (sym (firsts_two t u))
    ∙ ap answered (sym k)

-- the file: a place past the last, and a cell that was saved
pub small_past : (out : List ℕ) (p : ℕ) → 9312 ≤ p → Saves out out (small_file (length out) p) (Err Question)
unfolding saved_in
small_past out p h = saves_refused out (small_file (length out) p) Question (ap (saved_in (length out)) (listed_none p h))

pub small_saved : (before after : List ℕ) (p : ℕ) (c : Circuit) {given : Result ℕ Refusal} → listed_at small_cells p ≡ answered c → Saves before after (save_cell (length before) c) given
    → Saves before after (small_file (length before) p) given
small_saved before after p c e s = saves_as (ap (saved_in (length before)) (e ∙ sym (small_shape p c e).legal)) s

-- What the reader's answer says of the call.
use mathlib.Core.Path.{◌≡◌, refl, ap}
use mathlib.Core.List.{List, [], ◌∷◌}
use Prim.Native.Nat.{ℕ}
use lib.ListN.{length}
use borrow.Author.Tests.{eq-eqb, ne_eqb}
use Rattle.refusal.specs.declared.Refusal.{Refusal}
use Rattle.refusal.specs.declared.Refusal.TheVariants.{Buffer}
use Rattle.refusal.specs.Number.{refusal_number}
use Rattle.refusal.specs.Answer.{refused, answered, answer_number}
use Rattle.format.specs.declared.Header.{Header}
use Rattle.format.specs.Circuit.{Circuit, header_of}
use Rattle.format.specs.File.{read_cell}
use Rattle.editor.specs.Read.{read_call, header_after, header_numbers}

-- another length than five is refused 8
pub wrong_length : (file header : List ℕ) → (length header ≡ 5 → ⊥) → read_call file header ≡ refused Buffer
unfolding read_call
wrong_length file header h = rw (ne_eqb (length header) 5 h)

-- else the answer is the reader's
pub right_length : (file header : List ℕ) → length header ≡ 5 → read_call file header ≡ read_cell file
unfolding read_call
right_length file header h = rw (eq-eqb (length header) 5 h)

-- a refused call gives its number, and the header keeps its content
pub call_refused : (file header : List ℕ) (why : Refusal) {n : ℕ} → read_call file header ≡ refused why → n ≡ refusal_number why
    → (n ≡ answer_number (read_call file header)) × (header ≡ header_after header (read_call file header))
call_refused file header why e p = rw e (p, refl)

-- an answered call gives 0 and the header's numbers
pub call_answered : (file header : List ℕ) (c : Circuit) {out : List ℕ} → read_call file header ≡ answered c → out ≡ header_numbers c
    → (◌≡◌ {A = ℕ} 0 (answer_number (read_call file header))) × (out ≡ header_after header (read_call file header))
call_answered file header c e p = rw e (refl, p)

-- the five numbers of a header that is a cell's
pub header_numbers_lem : (h : Header) (c : Circuit) → h ≡ header_of c → h.nodes ∷ h.transistors ∷ h.entries ∷ h.letters ∷ h.horizon.0 ∷ [] ≡ header_numbers c
header_numbers_lem h c e = ap (λ (x : Header). x.nodes ∷ x.transistors ∷ x.entries ∷ x.letters ∷ x.horizon.0 ∷ []) e

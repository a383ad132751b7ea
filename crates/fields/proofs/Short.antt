-- Every line fits the room for one.
use mathlib.Core.Path.{◌≡◌, ap}
use mathlib.Core.Logic.{⊎_elim}
use mathlib.Core.List.{List}
use mathlib.Core.Bool.{Bool, true, false, cond}
use Prim.Native.Nat.{ℕ, ◌%◌, ◌^◌, ◌<◌, ◌≤◌}
use native.Mathlib.Omega.{arith}
use lib.Dec.{eqb}
use lib.ListN.{length, length-append}
use Rattle.refusal.specs.declared.Refusal.{Refusal}
use Rattle.refusal.specs.declared.Refusal.TheVariants.{Length, Header, Chain, Record, Order, Full, Unsound, Buffer, Question, Finished, Ceiling}
use Rattle.refusal.specs.Number.{refusal_number}
use Rattle.format.specs.declared.Header as header
use Rattle.format.specs.declared.Node.{Node}
use Rattle.format.specs.declared.Transistor.{Transistor}
use Rattle.format.specs.declared.Entry.{Entry}
use Rattle.format.specs.Source.{letter_of}
use Rattle.lists.proofs.Cases.{eq_or_ne}
use Rattle.text.proofs.Decimal.{decimal_short, decimal_long}
use Rattle.fields.specs.Words.{complement_word, letter_word, inner_word, input_word, n_word, p_word}
use Rattle.fields.specs.Line.{line_room, cell_line, refused_line, source_end, node_line, channel_ends, transistor_line, entry_time, entry_line}
use Rattle.fields.proofs.Source.{source_low, source_high, source_letter}

pub cell_short : (h : header.Header) → h.nodes < 2 ^ 32 → h.transistors < 2 ^ 32 → h.entries < 2 ^ 32 → h.letters < 2 ^ 32 → h.horizon.0 < 2 ^ 64
    → length (cell_line h) ≤ line_room
unfolding cell_line
cell_short h n m e k t =
    simp length-append
    (omega (arith, decimal_short h.nodes n, decimal_short h.transistors m, decimal_short h.entries e, decimal_short h.letters k, decimal_long h.horizon.0 t))

number_small : (why : Refusal) → refusal_number why < 2 ^ 32
number_small Length = omega arith
number_small Header = omega arith
number_small Chain = omega arith
number_small Record = omega arith
number_small Order = omega arith
number_small Full = omega arith
number_small Unsound = omega arith
number_small Buffer = omega arith
number_small Question = omega arith
number_small Finished = omega arith
number_small Ceiling = omega arith

pub refused_short : (why : Refusal) → length (refused_line why) ≤ line_room
unfolding refused_line
refused_short why = simp length-append (omega (arith, decimal_short (refusal_number why) (number_small why)))

-- one of two words
either_short : (t : Bool) (x y : List ℕ) (n : ℕ) → length x ≤ n → length y ≤ n → length (cond t x y) ≤ n
either_short true x y n h g = h
either_short false x y n h g = g

-- a source is a byte
source_short : (s : ℕ) → s < 256 → length (source_end s) ≤ 22
source_short s h =
    ⊎_elim
    (λ (e : s ≡ 0). omega (arith, ap length (source_low s e)))
    (λ (n : s ≡ 0 → ⊥).
    ⊎_elim
    (λ (e : s ≡ 1). omega (arith, ap length (source_high s n e)))
    (λ (m : s ≡ 1 → ⊥).
    rw (source_letter s n m)
    (simp length-append
    (omega (arith, either_short (eqb (s % 2) 1) complement_word letter_word 11 (omega arith) (omega arith), decimal_short (letter_of s) (omega arith)))))
    (eq_or_ne s 1))
    (eq_or_ne s 0)

pub node_short : (number : ℕ) (n : Node) → number < 2 ^ 32 → n.start < 256 → n.capacitance.0 < 2 ^ 32 → length (node_line number n) ≤ line_room
unfolding node_line
node_short number n k s f =
    simp length-append
    (omega (arith, decimal_short number k, either_short (eqb n.role 0) inner_word input_word 6 (omega arith) (omega arith), decimal_short n.capacitance.0 f, source_short n.start s))

ends_short : (t : Transistor) → t.first < 256 → t.second < 256 → length (channel_ends t) ≤ 27
unfolding channel_ends
ends_short t a b = simp length-append (omega (arith, decimal_short t.first (omega arith), decimal_short t.second (omega arith)))

pub transistor_short : (number : ℕ) (t : Transistor) → number < 2 ^ 32 → t.gate < 256 → t.first < 256 → t.second < 256 → t.resistance.0 < 2 ^ 32
    → length (transistor_line number t) ≤ line_room
unfolding transistor_line
transistor_short number t k g a b o =
    simp length-append
    (omega (arith, decimal_short number k, either_short (eqb t.polarity 0) n_word p_word 7 (omega arith) (omega arith), decimal_short t.gate (omega arith), ends_short t a b, decimal_short t.resistance.0 o))

time_short : (e : Entry) → e.time.0 < 2 ^ 64 → length (entry_time e) ≤ 34
unfolding entry_time
time_short e t = simp length-append (omega (arith, decimal_long e.time.0 t))

pub entry_short : (number : ℕ) (e : Entry) → number < 2 ^ 32 → e.input < 256 → e.source < 256 → e.time.0 < 2 ^ 64 → length (entry_line number e) ≤ line_room
unfolding entry_line
entry_short number e k i s t =
    simp length-append
    (omega (arith, decimal_short number k, time_short e t, decimal_short e.input (omega arith), source_short e.source s))

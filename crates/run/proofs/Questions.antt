-- What a run question gives, at each of its ends: 8, the cell, 7, 9, and the answer.
use Rattle.std.proofs.Common.{Ok, Err}
use mathlib.Core.Path.{◌≡◌, refl, sym, ◌∙◌}
use mathlib.Core.List.{List}
use mathlib.Core.Bool.{Bool, true, false}
use Prim.Native.Nat.{ℕ, ◌+◌, ◌<◌, ◌≤◌}
use native.Mathlib.Omega.{arith}
use lib.ListN.{length}
use lib.Dec.{ltb}
use borrow.Author.Tests.{lt-ltb, le-ltb}
use Rattle.refusal.specs.declared.Refusal.{Refusal}
use Rattle.refusal.specs.declared.Refusal.TheVariants.{Buffer, Unsound, Question}
use Rattle.refusal.specs.Answer.{Answer, refused, answered}
use Rattle.format.specs.Circuit.{Circuit}
use Rattle.diagram.specs.Pattern.{patterns}
use Rattle.diagram.specs.Call.{columns, Columns, lengths_legal, columns_sound}
use Rattle.diagram.specs.Held.{held}
use Rattle.rules.specs.State.{value_at, change_at}
use Rattle.rules.specs.Run as defined
use Rattle.rules.specs.Run.{state_of, run_sound}
use Rattle.rules.specs.Call.{Wire, ask_call}
use Rattle.table.specs.Holds.{Judged}
use Rattle.functions.specs.Open.{Legible}
use Rattle.functions.proofs.Carry.{sound_legible}
use Rattle.net.specs.Net.{nodes_place, letters_place, at, net_circuit}
use Rattle.net.specs.Laid.{Laid}
use Rattle.net.proofs.Laying.{nodes_length, letters_at}
use Rattle.record.specs.declared.Run.{Run}
use Rattle.record.specs.declared.Wire as given
use Rattle.record.specs.Record.{run_of}
use Rattle.run.specs.Asked.{AskedAs}

-- a refused question says nothing
asked_refused : (answer : Answer Wire) (why : Refusal) → answer ≡ refused why → AskedAs answer (Err why)
asked_refused answer why e = rw e record { result_is = refl }

-- 8
pub asked_buffer : (cell : Answer Circuit) (table : Columns) (run : defined.Run) (n p : ℕ) → lengths_legal table ≡ false → AskedAs (ask_call cell table run n p) (Err Buffer)
unfolding ask_call
asked_buffer cell table run n p e = asked_refused (ask_call cell table run n p) Buffer (rw e)

-- the cell
pub asked_cell : (why : Refusal) (table : Columns) (run : defined.Run) (n p : ℕ) → lengths_legal table ≡ true → AskedAs (ask_call (refused why) table run n p) (Err why)
unfolding ask_call
asked_cell why table run n p e = asked_refused (ask_call (refused why) table run n p) why (rw e)

-- on a cell laid out flat, with columns of legal lengths
module _ (net l w h : List ℕ) (r : Run) (n p : ℕ) (laid : Laid (net_circuit net) net) (legal : lengths_legal (columns l w h) ≡ true) where
  abbrev c : Circuit
  c = net_circuit net

  abbrev call : Answer Wire
  call = ask_call (answered c) (columns l w h) (run_of c r) n p

  module _ {ix : List ℕ} {x : Bool} (j : Judged (at net letters_place) l w h r.used ix x) where
    columns_by : columns_sound c.letters (columns l w h) r.used ≡ x
    columns_by = rw (← letters_at net) at (sym j.is)

    -- 7: the table
    pub asked_table : x ≡ false → AskedAs (ask_call (answered (net_circuit net)) (columns l w h) (run_of (net_circuit net) r) n p) (Err Unsound)
    unfolding ask_call
    asked_table e = asked_refused call Unsound (rw (legal, columns_by, e))

    -- a sound table can be read
    pub table_legible : x ≡ true → Legible (at net letters_place) l w h r.used
    table_legible e = sound_legible legal (sym j.is ∙ e) laid.within.letters

    module _ (e : x ≡ true) where
      -- 7: the run
      pub asked_run : {y : Bool} → y ≡ run_sound (net_circuit net) (held l w h r.used) (run_of (net_circuit net) r) → y ≡ false
          → AskedAs (ask_call (answered (net_circuit net)) (columns l w h) (run_of (net_circuit net) r) n p) (Err Unsound)
      unfolding ask_call
      asked_run is f = asked_refused call Unsound (rw (legal, columns_by, e, ← is, f))

      module _ {y : Bool} (is : y ≡ run_sound (net_circuit net) (held l w h r.used) (run_of (net_circuit net) r)) (f : y ≡ true) where
        -- 9: the node
        pub asked_node : at net nodes_place + 2 ≤ n → AskedAs (ask_call (answered (net_circuit net)) (columns l w h) (run_of (net_circuit net) r) n p) (Err Question)
        unfolding ask_call
        asked_node g = asked_refused call Question (rw (legal, columns_by, e, ← is, f, le-ltb n (2 + length c.nodes) (omega (arith, nodes_length net))))

        -- 9: the pattern
        pub asked_pattern : n < at net nodes_place + 2 → ltb p (patterns (at net letters_place)) ≡ false
            → AskedAs (ask_call (answered (net_circuit net)) (columns l w h) (run_of (net_circuit net) r) n p) (Err Question)
        unfolding ask_call
        asked_pattern g k =
            asked_refused call Question
            (rw (legal, columns_by, e, ← is, f, lt-ltb n (2 + length c.nodes) (omega (arith, nodes_length net)), (rw (← letters_at net) at k)))

        -- the answer
        pub asked_done : {wire : given.Wire} → n < at net nodes_place + 2 → ltb p (patterns (at net letters_place)) ≡ true
            → (wire.value ≡ value_at (state_of (net_circuit net) (held l w h r.used) (run_of (net_circuit net) r) p) n)
            × (wire.change ≡ change_at (state_of (net_circuit net) (held l w h r.used) (run_of (net_circuit net) r) p) n)
            → AskedAs (ask_call (answered (net_circuit net)) (columns l w h) (run_of (net_circuit net) r) n p) (Ok wire)
        unfolding ask_call
        asked_done {wire} g k a =
            rw (legal, columns_by, e, ← is, f, lt-ltb n (2 + length c.nodes) (omega (arith, nodes_length net)), (rw (← letters_at net) at k))
            record { result_is = λ i. Ok record { value = a.0 i; change = a.1 i } }

-- The state of a pattern that a run holds, in columns by node number; a pattern after the other, up to the first that exceeds the ceiling.
use mathlib.Core.Path.{◌≡◌, sym, ◌∙◌, ap, ap₂}
use mathlib.Core.Logic.{⊎_elim}
use mathlib.Core.List.{List}
use mathlib.Core.Bool.{Bool, true, not}
use Prim.Native.Nat.{ℕ, ◌+◌, ◌<◌, ◌≤◌}
use native.Mathlib.Omega.{arith}
use lib.ListN.{get_or}
use Rattle.lists.specs.Tests.{below}
use Rattle.format.specs.Circuit.{Circuit}
use Rattle.diagram.specs.Pattern.{patterns}
use Rattle.diagram.specs.Table.{Table, never}
use Rattle.diagram.specs.Held.{held}
use Rattle.rules.specs.State.{State, value_at, change_at}
use Rattle.rules.specs.Step.{start_exceeds, step_exceeds}
use Rattle.rules.specs.Run.{Moment, state_of, time_after, start_within, step_within, run_sound}
use Rattle.rules.proofs.State.{Numbered, Shaped, values_eta, changes_eta}
use Rattle.rules.proofs.Moment.{States, run_record, sound_states}
use Rattle.functions.specs.Open.{Legible}
use Rattle.functions.proofs.Carry.{legible_sound}
use Rattle.net.specs.Net.{letters_place, at, net_circuit}
use Rattle.net.specs.Laid.{Laid}
use Rattle.net.proofs.Laying.{nodes_length, letters_at}
use Rattle.std.specs.Prelude.{Result, Ok, Err, is_err}
use Rattle.units.specs.declared.AboveCeiling.{AboveCeiling}
use Rattle.plain.specs.declared.State as plain
use Rattle.plain.specs.Pattern.{shown_by, Bits, NoneExceeded, Filled, Goes}
use Rattle.plain.proofs.Fill.{filled_column, filled_shown, filled_bits}
use Rattle.record.specs.declared.Run.{Run}
use Rattle.record.specs.Record.{run_of}

-- whether a start or a step is refused
pub goes_err : (c : Circuit) (over : Bool) (next : State) (x : Result plain.State AboveCeiling) → Goes c over next x → is_err x ≡ over
goes_err c over next (Ok s) g = sym g.0
goes_err c over next (Err e) g = sym g

module _ (net l w h : List ℕ) (r : Run) (laid : Laid (net_circuit net) net) (o : Legible (at net letters_place) l w h r.used)
    (sound : run_sound (net_circuit net) (held l w h r.used) (run_of (net_circuit net) r) ≡ true) (p : ℕ) (is : p < patterns (at net letters_place)) where
  abbrev c : Circuit
  c = net_circuit net

  abbrev t : Table
  t = held l w h r.used

  abbrev s : State
  s = state_of c t (run_of c r) p

  states : States c r.time (state_of c t (run_of c r))
  unfolding net_circuit
  states = sound_states o.few (legible_sound o) (run_record c t (run_of c r) sound)

  pattern : p < patterns c.letters
  unfolding net_circuit
  pattern = is

  -- columns that are filled with its values and next changes
  module _ {values changes : List ℕ} (v : Filled 0 1 (value_at s) (2 + at net 0) values) (d : Filled never never (change_at s) (2 + at net 0) changes) where
    -- show it
    pub held_shown : shown_by (net_circuit net) values changes ≡ state_of (net_circuit net) (held l w h r.used) (run_of (net_circuit net) r) p
    held_shown =
        let shaped : Shaped c s = states.shaped p pattern in
        let vs = filled_shown net laid v ∙ sym (values_eta c s shaped) in
        let cs = filled_shown net laid d ∙ sym (changes_eta c s shaped) in
        λ i. record { values = vs i; changes = cs i }

    -- values are bits
    pub held_bits : Bits (net_circuit net) values
    held_bits = record {
      column = filled_column v;
      bits = λ n k.
          filled_bits net laid v
          (λ m least most. (states.bits p pattern).bit m (record { least = least; most = omega (arith, nodes_length net) }))
          n (omega (arith, nodes_length net));
    }

    -- and next changes, which are never or after now, and so not 0
    pub held_none_exceeded : NoneExceeded (net_circuit net) changes
    held_none_exceeded n least most =
        let k : Numbered c n = record { least = least; most = most } in
        let own : get_or changes n 0 ≡ change_at s n = d.each n least (omega (arith, nodes_length net)) in
        ⊎_elim
        (λ (e : change_at s n ≡ never). omega (arith, own, e))
        (λ (e : (r.time < change_at s n) × (change_at s n ≤ c.horizon.0)). omega (arith, own, e.0))
        ((states.pending p pattern).later n k)

-- all patterns of the letters that stand in the column
pub start_all : (net : List ℕ) → below (patterns (at net letters_place)) (λ p. not (start_exceeds (net_circuit net) p)) ≡ start_within (net_circuit net)
unfolding start_within
start_all net = ap (λ (k : ℕ). below (patterns k) (λ p. not (start_exceeds (net_circuit net) p))) (sym (letters_at net))

-- the same of the step to the next time
pub step_all : (net : List ℕ) (m : Moment) (time : ℕ) → time ≡ time_after (net_circuit net) m
    → below (patterns (at net letters_place)) (λ p. not (step_exceeds (net_circuit net) time p (state_of (net_circuit net) m.table m.run p))) ≡ step_within (net_circuit net) m
unfolding step_within
step_all net m time e =
    ap₂ (λ (k now : ℕ). below (patterns k) (λ p. not (step_exceeds (net_circuit net) now p (state_of (net_circuit net) m.table m.run p)))) (sym (letters_at net)) e

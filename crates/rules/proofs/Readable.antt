-- A run record stays readable: in the columns that hold its table, and in every sound extension of that table.
use mathlib.Core.Path.{◌≡◌, refl, sym, ◌∙◌, ap}
use mathlib.Core.Bool.{Bool, true, ◌&&◌}
use mathlib.Core.List.{map}
use Prim.Native.Nat.{ℕ, ◌+◌, ◌<◌, ◌≤◌}
use native.Mathlib.Omega.{arith}
use lib.ListN.{length, get_or}
use lib.Dec.{ltb}
use Rattle.refusal.specs.declared.Refusal.TheVariants.{Question, Finished}
use Rattle.refusal.specs.Answer.{answered, check}
use Rattle.lists.proofs.Cases.{and_left, and_right, and_both}
use Rattle.lists.proofs.Map.{map_same}
use Rattle.format.specs.Circuit.{Circuit, first_node_number}
use Rattle.format.specs.Legal.{check_circuit}
use Rattle.diagram.specs.Pattern.{most_letters, patterns}
use Rattle.diagram.specs.Table.{Table, never, number_at}
use Rattle.diagram.specs.Call.{Columns, lengths_legal, table_of, columns_of, columns_sound}
use Rattle.diagram.specs.Held.{least_entries, most_entries}
use Rattle.diagram.proofs.Sound.{Sound}
use Rattle.diagram.specs.Extends.{Extends}
use Rattle.diagram.proofs.Number.{number_at_extends}
use Rattle.diagram.proofs.Columns.{Lengths, ColumnsSound, lengths_record, lengths_test, columns_record, columns_test, columns_sound_lem, columns_length, columns_lengths, columns_table, table_columns, table_length_lem}
use Rattle.rules.specs.State.{State, value_at, change_at}
use Rattle.rules.specs.Run.{Run, Moment, state_of, next_time, time_after, run_moment, run_sound}
use Rattle.rules.specs.Call.{working_legal, moment_given, sound_together, step_call, run_call, Wire, ask_call}
use Rattle.rules.proofs.Moment.{RunSound, run_record, run_test, SoundMoment, legal_few}
use Rattle.rules.proofs.Admitted.{admitting}

-- the moment that sound columns and a run record give is sound
pub given_sound : (c : Circuit) (table : Columns) (r : Run) → lengths_legal table ≡ true → sound_together c table r ≡ true → SoundMoment c (moment_given table r)
given_sound c table r long h =
    let l : Lengths table = lengths_record table long in
    let both : Bool = columns_sound c.letters table r.used in
    let k : ColumnsSound c.letters table r.used = columns_record c.letters table r.used (and_left both (run_sound c (table_of table r.used) r) h) in
    record {
      table = k.table;
      run = run_record c (table_of table r.used) r (and_right both (run_sound c (table_of table r.used) r) h);
      used = sym (table_length_lem table l.low_long l.high_long r.used k.fits);
    }

module _ {c : Circuit} {m : Moment} (s : SoundMoment c m) (size : ℕ) (fits : length m.table ≤ size) where
  -- columns of a table hold it, by the used count of its run record
  pub held_table : table_of (columns_of size m.table) m.run.used ≡ m.table
  held_table = ap (table_of (columns_of size m.table)) s.used ∙ table_columns size m.table fits

  -- so that they and the record give the moment
  pub held_given : moment_given (columns_of size m.table) m.run ≡ m
  held_given = λ i. record { run = m.run; table = held_table i }

  -- columns and record are sound together
  pub held_sound_lem : sound_together c (columns_of size m.table) m.run ≡ true
  held_sound_lem =
      and_both (columns_sound c.letters (columns_of size m.table) m.run.used) (run_sound c (table_of (columns_of size m.table) m.run.used) m.run)
      (rw s.used (columns_test c.letters (columns_of size m.table) (length m.table) (columns_sound_lem size m.table s.table fits)))
      (rw held_table (run_test c m.table m.run s.run))

  -- and of legal lengths
  pub held_lengths : least_entries ≤ size → size ≤ most_entries → lengths_legal (columns_of size m.table) ≡ true
  held_lengths least most = lengths_test (columns_of size m.table) (columns_lengths size m.table least most fits)

-- a run record with the present used count
abbrev pub with_used : ℕ → Run → Run
with_used used r = record { time = r.time; used = used; values = r.values; changes = r.changes }

module _ {c : Circuit} {t u : Table} {r : Run} (few : c.letters ≤ most_letters) (s : Sound c.letters t) (h : RunSound c t r) (x : Extends t u) where
  value_kept : (i : ℕ) → i < length c.nodes → (p : ℕ) → number_at c.letters u (get_or r.values i 0) p ≡ number_at c.letters t (get_or r.values i 0) p
  value_kept i l p = number_at_extends (get_or r.values i 0) p few s x (h.value_within i l)

  change_kept : (i : ℕ) → i < length c.nodes → (p : ℕ) → number_at c.letters u (get_or r.changes i 0) p ≡ number_at c.letters t (get_or r.changes i 0) p
  change_kept i l p = number_at_extends (get_or r.changes i 0) p few s x (h.change_within i l)

  -- the record is sound with an extension of its table
  pub extended_run : (used : ℕ) → RunSound c u (with_used used r)
  extended_run used = record {
    time_most = h.time_most;
    values_long = h.values_long;
    changes_long = h.changes_long;
    value_within = λ i l. omega (arith, h.value_within i l, x.longer);
    change_within = λ i l. omega (arith, h.change_within i l, x.longer);
    value_bit = λ i l p k. rw (value_kept i l p) (h.value_bit i l p k);
    change_later = λ i l p k. rw (change_kept i l p) (h.change_later i l p k);
    inputs_rest_lem = h.inputs_rest_lem;
  }

  -- and holds the same state at every pattern
  pub extended_state : (used p : ℕ) → state_of c u (with_used used r) p ≡ state_of c t r p
  unfolding state_of
  extended_state used p =
      let inU : ℕ → ℕ = λ (e : ℕ). number_at c.letters u e p in
      let inT : ℕ → ℕ = λ (e : ℕ). number_at c.letters t e p in
      let vs : map inU r.values ≡ map inT r.values = map_same inU inT 0 r.values (λ i l. value_kept i (omega (arith, h.values_long)) p) in
      let cs : map inU r.changes ≡ map inT r.changes = map_same inU inT 0 r.changes (λ i l. change_kept i (omega (arith, h.changes_long)) p) in
      λ i. record { values = vs i; changes = cs i }

-- a moment's record in an extension of its table
abbrev pub in_extension : Table → Moment → Moment
in_extension u m = record { run = with_used (length u) m.run; table = u }

module _ {c : Circuit} (legal : check_circuit c ≡ answered c) {m : Moment} (s : SoundMoment c m) (u : Table) (su : Sound c.letters u) (x : Extends m.table u) where
  -- with the present used count the record and a sound extension are a sound moment
  pub readable_sound : SoundMoment c (in_extension u m)
  readable_sound = record { table = su; run = extended_run (legal_few legal) s.table s.run x (length u); used = refl }

  -- whose states are the same
  pub readable_state : (p : ℕ) → state_of c u (with_used (length u) m.run) p ≡ state_of c m.table m.run p
  readable_state p = extended_state (legal_few legal) s.table s.run x (length u) p

  -- and so is the time of its next step
  pub readable_time : time_after c (in_extension u m) ≡ time_after c m
  unfolding time_after
  readable_time = ap (next_time c m.run.time) (λ i p. readable_state p i)

-- what a question asks of a state
abbrev pub wire_of : State → ℕ → Wire
wire_of s n = record { value = value_at s n; change = change_at s n }

module _ {c : Circuit} {m : Moment} (s : SoundMoment c m) (size : ℕ) (least : least_entries ≤ size) (most : size ≤ most_entries) (fits : length m.table ≤ size) where
  -- a question of a held moment
  pub held_ask : (n p : ℕ) → ask_call (answered c) (columns_of size m.table) m.run n p
      ≡ check (ltb n (first_node_number + length c.nodes) && ltb p (patterns c.letters)) Question (answered (wire_of (state_of c m.table m.run p) n))
  unfolding ask_call
  held_ask n p =
      rw (held_lengths s size fits least most, held_sound_lem s size fits, held_table s size fits)

module _ {c : Circuit} {m : Moment} (s : SoundMoment c m) (size : ℕ) (least : least_entries ≤ size) (most : size ≤ most_entries) (fits : length m.table ≤ size)
    (working : Columns) (legal : working_legal working ≡ true) where
  lengths_both : (lengths_legal (columns_of size m.table) && working_legal working) ≡ true
  lengths_both = and_both (lengths_legal (columns_of size m.table)) (working_legal working) (held_lengths s size fits least most) legal

  -- a step of a held moment
  pub held_step : step_call (answered c) (columns_of size m.table) m.run working ≡ check (ltb (time_after c m) never) Finished (admitting c size m)
  unfolding step_call
  held_step = rw (lengths_both, held_sound_lem s size fits, held_given s size fits, columns_length size m.table fits)

  -- a run of a held moment up to a picosecond
  pub held_run : (until : ℕ) → run_call (answered c) until (columns_of size m.table) m.run working ≡ run_moment c.horizon.0 c until size m
  unfolding run_call
  held_run until = rw (lengths_both, held_sound_lem s size fits, held_given s size fits, columns_length size m.table fits)

-- so a record answers every question as before, after whatever extended its table
pub readable : {c : Circuit} (legal : check_circuit c ≡ answered c) {m : Moment} (s : SoundMoment c m) (u : Table) (su : Sound c.letters u) (x : Extends m.table u)
    (size : ℕ) → least_entries ≤ size → size ≤ most_entries → length u ≤ size → (n p : ℕ)
    → ask_call (answered c) (columns_of size u) (with_used (length u) m.run) n p ≡ ask_call (answered c) (columns_of size m.table) m.run n p
readable {c} legal {m} s u su x size least most fits n p =
    held_ask (readable_sound legal s u su x) size least most fits n p
    ∙ ap (λ (q : State). check (ltb n (first_node_number + length c.nodes) && ltb p (patterns c.letters)) Question (answered (wire_of q n))) (readable_state legal s u su x p)
    ∙ sym (held_ask s size least most (omega (arith, x.longer)) n p)

-- the same of the columns that a call was given
pub readable_given : {c : Circuit} → check_circuit c ≡ answered c → (table : Columns) (r : Run) → lengths_legal table ≡ true → sound_together c table r ≡ true
    → (u : Table) → Sound c.letters u → Extends (table_of table r.used) u → length u ≤ length table.letter → (n p : ℕ)
    → ask_call (answered c) (columns_of (length table.letter) u) (with_used (length u) r) n p ≡ ask_call (answered c) table r n p
readable_given {c} legal table r long h u su x fits n p =
    let l : Lengths table = lengths_record table long in
    let k : ColumnsSound c.letters table r.used = columns_record c.letters table r.used (and_left (columns_sound c.letters table r.used) _ h) in
    readable legal (given_sound c table r long h) u su x (length table.letter) l.least l.most fits n p
    ∙ ap (λ (columns : Columns). ask_call (answered c) columns r n p) (columns_table table r.used l k)

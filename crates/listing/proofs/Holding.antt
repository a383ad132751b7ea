-- An answered start or step: its moment is sound, its columns can be read, and their lines are those of the moment.
use mathlib.Core.Path.{◌≡◌, refl, sym, ◌∙◌, ap}
use mathlib.Core.List.{List, []}
use mathlib.Core.Bool.{Bool, true, false, not, ◌&&◌, ◌||◌, cond}
use Prim.Native.Nat.{ℕ, ◌+◌, ◌<◌, ◌≤◌}
use native.Mathlib.Omega.{arith}
use lib.ListN.{length, get_or}
use lib.Dec.{leb, ltb, eqb}
use borrow.Author.Tests.{leb-true, ltb-true}
use Rattle.refusal.specs.declared.Refusal.TheVariants.{Full, Buffer, Unsound, Finished, Ceiling}
use Rattle.refusal.specs.Answer.{Answer, refused, answered}
use Rattle.refusal.proofs.Answer.{refused_not_answered, same_answer, check_passed}
use Rattle.lists.proofs.Cases.{and_left}
use Rattle.lists.proofs.Padded.{padded_read}
use Rattle.format.specs.Circuit.{Circuit, first_node_number}
use Rattle.format.specs.Legal.{most_nodes, check_circuit}
use Rattle.format.proofs.Check.{check_same}
use Rattle.format.proofs.Legal.{legal_limits}
use Rattle.diagram.specs.Table.{Table, never}
use Rattle.diagram.specs.Operation.{count}
use Rattle.diagram.specs.Call.{columns, Columns, lengths_legal, table_of, columns_of, columns_sound}
use Rattle.diagram.proofs.Sound.{Sound}
use Rattle.diagram.specs.Held.{least_entries, most_entries, held}
use Rattle.diagram.proofs.Columns.{Lengths, lengths_record, columns_record}
use Rattle.rules.specs.Run as defined
use Rattle.rules.specs.Run.{Moment, start_moment, start_within, start_answer, time_after, fitting}
use Rattle.rules.specs.Call.{working_legal, with_cell, moment_given, sound_together, start_call, step_call}
use Rattle.rules.proofs.Moment.{SoundMoment, legal_few, start_sound, step_sound}
use Rattle.rules.proofs.Admitted.{admitting, answer_admitted}
use Rattle.rules.proofs.Readable.{given_sound, held_table, held_sound_lem, held_lengths}
use Rattle.functions.specs.Open.{Legible}
use Rattle.functions.proofs.Carry.{sound_legible}
use Rattle.record.specs.Record.{record_of}
use Rattle.lines.specs.Listing.{node_line, start_lines, step_lines, lines_of}
use Rattle.lines.specs.Lines.{node_lines, Entries}

-- what an answered call holds in columns of a length
pub record Holding (c : Circuit) (size : ℕ) (m : Moment) : Type 0 where
  pub legal : check_circuit c ≡ answered c
  pub sound : SoundMoment c m
  pub fits : length m.table ≤ size
  pub least : least_entries ≤ size
  pub most : size ≤ most_entries

-- the cell of an answered call is legal
with_answered : {A : Type 0} (c : Circuit) (next : Circuit → Answer A) (a : A) → with_cell (check_circuit c) next ≡ answered a
    → (check_circuit c ≡ answered c) × (next c ≡ answered a)
with_answered {A} c next a e = from (check_circuit c) refl e
  where
    from : (cell : Answer Circuit) → check_circuit c ≡ cell → with_cell cell next ≡ answered a → (check_circuit c ≡ answered c) × (next c ≡ answered a)
    from (refused why) q k = refused_not_answered k
    from (answered d) q k = (q ∙ ap {B = Answer Circuit} answered (check_same q), ap next (sym (check_same q)) ∙ k)

-- a start in a sound table that is within the ceiling and fits
pub first_holds : {c : Circuit} {size : ℕ} (t : Table) (m : Moment) → check_circuit c ≡ answered c → least_entries ≤ size → size ≤ most_entries → Sound c.letters t
    → start_answer c size t ≡ answered m → Holding c size m
first_holds {c} {size} t m legal least most s e =
    let within = check_passed (start_within c) Ceiling (fitting size (start_moment c t)) m e in
    let x = check_passed (leb (length (start_moment c t).table) size) Full (answered (start_moment c t)) m within.1 in
    rw (← same_answer x.1) record { legal = legal; sound = start_sound legal s; fits = leb-true (length (start_moment c t).table) size x.0; least = least; most = most }

-- an answered start
pub start_holds : (c : Circuit) (table working : Columns) (used : ℕ) (m : Moment) → start_call (check_circuit c) table used working ≡ answered m → Holding c (length table.letter) m
unfolding start_call
start_holds c table working used m e =
    let one = check_passed (lengths_legal table && working_legal working) Buffer _ m e in
    let cell = with_answered c _ m one.1 in
    let two = check_passed (columns_sound c.letters table used) Unsound _ m cell.1 in
    let l : Lengths table = lengths_record table (and_left (lengths_legal table) (working_legal working) one.0) in
    first_holds (table_of table used) m cell.0 l.least l.most (columns_record c.letters table used two.0).table two.1

-- an answered step of a sound moment
pub admitted_holds : {c : Circuit} {size : ℕ} {m next : Moment} → check_circuit c ≡ answered c → least_entries ≤ size → size ≤ most_entries → SoundMoment c m → time_after c m < never
    → admitting c size m ≡ answered next → Holding c size next
admitted_holds legal least most s more e =
    let x = answer_admitted e in
    rw x.1 record { legal = legal; sound = step_sound legal s more; fits = x.0.fits; least = least; most = most }

-- an answered step
pub step_holds : (c : Circuit) (table working : Columns) (r : defined.Run) (m : Moment) → step_call (check_circuit c) table r working ≡ answered m → Holding c (length table.letter) m
unfolding step_call
step_holds c table working r m e =
    let one = check_passed (lengths_legal table && working_legal working) Buffer _ m e in
    let cell = with_answered c _ m one.1 in
    let two = check_passed (sound_together c table r) Unsound _ m cell.1 in
    let three = check_passed (ltb (time_after c (moment_given table r)) never) Finished _ m two.1 in
    let long : lengths_legal table ≡ true = and_left (lengths_legal table) (working_legal working) one.0 in
    let l : Lengths table = lengths_record table long in
    admitted_holds cell.0 l.least l.most (given_sound c table r long two.0) (ltb-true (time_after c (moment_given table r)) never three.0) three.1

-- lines that are the same one by one
pub lines_same : (n : ℕ) (f g : ℕ → List ℕ) → ((i : ℕ) → f i ≡ g i) → lines_of n f ≡ lines_of n g
lines_same n f g e = ap (lines_of n) (λ j i. e i j)

module _ {c : Circuit} {size : ℕ} {m : Moment} (k : Holding c size m) {l w h : List ℕ} (e : columns l w h ≡ columns_of size m.table) where
  pub held_legible : Legible c.letters l w h m.run.used
  held_legible =
      sound_legible
      (ap lengths_legal e ∙ held_lengths k.sound size k.fits k.least k.most)
      (ap (λ (t : Columns). columns_sound c.letters t m.run.used) e ∙ and_left _ _ (held_sound_lem k.sound size k.fits))
      (legal_few k.legal)

  pub held_entries : Entries c.letters (length c.nodes) l w h (record_of m.run).used (record_of m.run).values
  held_entries = record {
    legible = held_legible;
    few = (legal_limits k.legal).most_nodes_lem;
    within = λ i b. rw (padded_read most_nodes 0 m.run.values i) (omega (arith, k.sound.run.value_within i b, k.sound.used));
  }

  held_is : held l w h m.run.used ≡ m.table
  held_is = ap (λ (t : Columns). table_of t m.run.used) e ∙ held_table k.sound size k.fits

  pub held_lines : (all : Bool) (before : List ℕ)
      → node_lines c.letters (length c.nodes) (held l w h m.run.used) m.run.time all (record_of m.run).values before
      ≡ node_lines c.letters (length c.nodes) m.table m.run.time all m.run.values before
  held_lines all before =
      ap (λ (t : Table). node_lines c.letters (length c.nodes) t m.run.time all (record_of m.run).values before) held_is
      ∙ lines_same (length c.nodes) _ _
      (λ i. ap (λ (v : ℕ). cond (all || not (eqb v (get_or before i 0))) (node_line m.run.time (first_node_number + i) (count c.letters m.table v)) []) (padded_read most_nodes 0 m.run.values i))

  pub held_start : (before : List ℕ) → node_lines c.letters (length c.nodes) (held l w h m.run.used) m.run.time true (record_of m.run).values before ≡ start_lines c m
  held_start before = held_lines true before

  pub held_step : (before : List ℕ) → node_lines c.letters (length c.nodes) (held l w h m.run.used) m.run.time false (record_of m.run).values before ≡ step_lines c before m
  held_step before = held_lines false before

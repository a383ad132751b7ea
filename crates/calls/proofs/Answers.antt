-- What a call leaves, at each of its ends.
use Rattle.std.proofs.Common.{Result, Ok, Err}
use mathlib.Core.Path.{◌≡◌, refl, sym, ◌∙◌, ap, subst}
use mathlib.Core.Logic.{⊎_elim}
use mathlib.Core.List.{List}
use mathlib.Core.Bool.{Bool, true, false, ◌&&◌}
use Prim.Native.Nat.{ℕ, ◌<◌, ◌≤◌}
use native.Mathlib.Omega.{arith}
use lib.ListN.{length}
use lib.Dec.{leb}
use borrow.Author.Tests.{leb-true, le-leb, lt-leb}
use Rattle.refusal.specs.declared.Refusal.{Refusal}
use Rattle.refusal.specs.declared.Refusal.TheVariants.{Buffer, Unsound, Question, Full}
use Rattle.refusal.specs.Number.{Reply}
use Rattle.refusal.specs.Answer.{Answer, refused, answered, check, reply_of}
use Rattle.lists.proofs.Cases.{bool_cases, and_left, and_right, true_false}
use Rattle.diagram.specs.Pattern.{most_letters}
use Rattle.diagram.specs.Table.{Table}
use Rattle.diagram.specs.Store.{Stored, store}
use Rattle.diagram.specs.Call.{columns, Columns, lengths_legal, columns_sound, columns_of, on_table, store_in, apply_call, choose_call, fix_call, number_call, count_call, columns_after}
use Rattle.diagram.specs.Held.{held}
use Rattle.diagram.proofs.Columns.{held_columns, columns_path}
use Rattle.table.specs.declared.Put.{Put}
use Rattle.table.specs.declared.Stop.{Stop}
use Rattle.table.specs.Stop.{stopped}
use Rattle.table.specs.Holds.{Sized, Holds, Kept, Outcome, Judged, zero_from}
use Rattle.table.proofs.Stops.{stop_over, stop_fits}
use Rattle.table.proofs.Entering.{sized_legal}
use Rattle.table.proofs.Clearing.{kept_restored}
use Rattle.functions.specs.Open.{Legible}
use Rattle.functions.proofs.Carry.{judged_open, sound_legible}
use Rattle.calls.specs.declared.Stored as given
use Rattle.calls.specs.declared.Make.{Make}
use Rattle.calls.specs.declared.Make.TheVariants.{Apply, Choose, Fix}
use Rattle.calls.specs.declared.Ask.{Ask}
use Rattle.calls.specs.declared.Ask.TheVariants.{Number, Count}
use Rattle.calls.specs.declared.opening.Call.{Call}
use Rattle.calls.specs.declared.opening.Call.TheVariants.{Store, Tell}
use Rattle.calls.specs.Call.{store_call, tell_call, make_question, ask_question, question, made, told}
use Rattle.calls.specs.Answered.{StoredAs, ToldAs, Passed, Opened, Closed}

-- past 8 and 7
pub judged_passed : {letters : ℕ} {l w h ix ix' : List ℕ} {used : ℕ} {r : Bool} → Sized l w h ix → Judged letters l w h used ix' r → r ≡ true → Passed letters l w h used
judged_passed s j e = record { lengths = sized_legal s; sound = sym j.is ∙ e }

-- with letters that are few enough the table can be read
pub passed_legible : {letters : ℕ} {l w h : List ℕ} {used : ℕ} → Passed letters l w h used → letters ≤ most_letters → Legible letters l w h used
passed_legible p few = sound_legible p.lengths p.sound few

-- a refused reply is not done
refused_done : {B : Type 0} {why : Refusal} {reply : Reply} → reply ≡ Err why → reply ≡ Ok tt → B
refused_done {why = why} {reply = reply} r d = let z : ◌≡◌ {A = ℕ} 0 1 = cc in absurd (omega arith)

-- 7, 9 or neither
module _ (call : Call) {letters : ℕ} {l w h ix ix' : List ℕ} {used : ℕ} {r : Bool} (s : Sized l w h ix) (j : Judged letters l w h used ix' r) where
  pub opened_unsound : r ≡ false → Opened call letters l w h used ix' (Err Unsound)
  opened_unsound e = record { is = rw (sized_legal s, ← j.is, e); opened = refused_done refl; asked = refused_done refl }

  pub opened_question : r ≡ true → (leb letters most_letters && question call letters used (held l w h used)) ≡ false → Opened call letters l w h used ix' (Err Question)
  opened_question e q = record { is = rw (sized_legal s, ← j.is, e, q); opened = refused_done refl; asked = refused_done refl }

  pub opened_done : r ≡ true → (leb letters most_letters && question call letters used (held l w h used)) ≡ true → Opened call letters l w h used ix' (Ok tt)
  opened_done e q = record {
    is = rw (sized_legal s, ← j.is, e, q);
    opened = λ _. judged_open j e (leb-true letters most_letters (and_left (leb letters most_letters) (question call letters used (held l w h used)) q));
    asked = λ _. and_right (leb letters most_letters) (question call letters used (held l w h used)) q;
  }

-- three checks refuse as they do alone
checks_refuse : {A : Type 0} (x y z : Bool) (t : Table) (next : Answer A) {why : Refusal}
    → reply_of (check x Buffer (check y Unsound (check z Question (answered t)))) ≡ Err why → check x Buffer (check y Unsound (check z Question next)) ≡ refused why
checks_refuse false y z t next e = cc
checks_refuse true false z t next e = cc
checks_refuse true true false t next e = cc
checks_refuse true true true t next e = refused_done e refl

-- and pass as they do alone
checks_pass : {A : Type 0} (x y z : Bool) (t : Table) (next : Answer A)
    → reply_of (check x Buffer (check y Unsound (check z Question (answered t)))) ≡ Ok tt → check x Buffer (check y Unsound (check z Question next)) ≡ next
checks_pass false y z t next e = refused_done refl e
checks_pass true false z t next e = refused_done refl e
checks_pass true true false t next e = refused_done refl e
checks_pass true true true t next e = refl

-- a call that was opened
module _ {A : Type 0} (call : Call) (letters : ℕ) (l w h : List ℕ) (used : ℕ) (next : Table → Answer A) where
  -- 8
  on_buffer : lengths_legal (columns l w h) ≡ false → on_table letters (columns l w h) used (question call letters used) next ≡ refused Buffer
  on_buffer e = rw e

  module _ {ix : List ℕ} {reply : Reply} (o : Opened call letters l w h used ix reply) where
    on_refused : (why : Refusal) → reply ≡ Err why → on_table letters (columns l w h) used (question call letters used) next ≡ refused why
    on_refused why e =
        checks_refuse (lengths_legal (columns l w h)) (columns_sound letters (columns l w h) used) (leb letters most_letters && question call letters used (held l w h used))
        (held l w h used) (next (held l w h used)) (sym o.is ∙ e)

    on_done : reply ≡ Ok tt → on_table letters (columns l w h) used (question call letters used) next ≡ next (held l w h used)
    on_done e =
        checks_pass (lengths_legal (columns l w h)) (columns_sound letters (columns l w h) used) (leb letters most_letters && question call letters used (held l w h used))
        (held l w h used) (next (held l w h used)) (sym o.is ∙ e)

-- each call as its question and its function
stores : (what : Make) (letters : ℕ) (c : Columns) (used : ℕ)
    → store_call what letters c used ≡ on_table letters c used (make_question what letters used) (λ t. store_in letters c (made what letters t) t)
unfolding apply_call choose_call fix_call
stores (Apply o a b) letters c used = refl
stores (Choose s a b) letters c used = refl
stores (Fix e j bit) letters c used = refl

tells : (what : Ask) (letters : ℕ) (c : Columns) (used : ℕ) → tell_call what letters c used ≡ on_table letters c used (ask_question what letters used) (λ t. answered (told what letters t))
unfolding number_call count_call
tells (Number e p) letters c used = refl
tells (Count e) letters c used = refl

-- a call that stores
module _ (what : Make) (letters : ℕ) (l w h : List ℕ) (used : ℕ) where
  abbrev next : Table → Answer Stored
  next t = store_in letters (columns l w h) (made what letters t) t

  -- refused, it leaves all as it was
  stored_why : (why : Refusal) → store_call what letters (columns l w h) used ≡ refused why
      → StoredAs (columns l w h) (columns l w h) (store_call what letters (columns l w h) used) (Err why)
  unfolding columns_after
  stored_why why e = rw e record { result_is = refl; columns_are = refl }

  pub stored_buffer : lengths_legal (columns l w h) ≡ false
      → StoredAs (columns l w h) (columns l w h) (store_call what letters (columns l w h) used) (Err Buffer)
  stored_buffer e = stored_why Buffer (stores what letters (columns l w h) used ∙ on_buffer (Store what) letters l w h used next e)

  module _ {ix : List ℕ} {opened : Reply} (o : Opened (Store what) letters l w h used ix opened) where
    pub stored_refused : (why : Refusal) → opened ≡ Err why
        → StoredAs (columns l w h) (columns l w h) (store_call what letters (columns l w h) used) (Err why)
    stored_refused why e = stored_why why (stores what letters (columns l w h) used ∙ on_refused (Store what) letters l w h used next o why e)

    -- stored, or cleared again
    pub stored_closed : {l1 w1 h1 ix1 l2 w2 h2 : List ℕ} {put : Put} {result : Result given.Stored Refusal} → opened ≡ Ok tt → length l1 ≡ length l
        → Outcome (held l w h used) (store letters 0 (made what letters (held l w h used)) (held l w h used)) l1 w1 h1 ix1 put
        → Closed l1 w1 h1 l2 w2 h2 used put.stop put.entry put.used result
        → StoredAs (columns l w h) (columns l2 w2 h2) (store_call what letters (columns l w h) used) result
    unfolding columns_after
    stored_closed {l1} {w1} {h1} {ix1} {l2} {w2} {h2} {put} {result} e long out d =
        let t : Table = held l w h used in
        let u : Stored = store letters 0 (made what letters t) t in
        let held : Holds l w h ix t used = (o.opened e).holds in
        let same : store_call what letters (columns l w h) used ≡ next t = stores what letters (columns l w h) used ∙ on_done (Store what) letters l w h used next o e in
        ⊎_elim
        (λ (full : stopped put.stop ≡ true).
        let over : length l1 < length u.table = stop_over (length l1) (length u.table) out.stop full in
        let is : store_call what letters (columns l w h) used ≡ refused Full = same ∙ rw (lt-leb (length u.table) (length l) (omega arith)) in
        let restored : columns l2 w2 h2 ≡ columns l w h = d.cleared full ∙ kept_restored held (subst (λ (n : ℕ). Kept l1 w1 h1 n t) long out.kept) in
        rw (restored, d.refused full) (stored_why Full is))
        (λ (room : stopped put.stop ≡ false).
        let fits : length u.table ≤ length l1 = stop_fits (length l1) (length u.table) out.stop room in
        let is : store_call what letters (columns l w h) used ≡ answered u = same ∙ rw (le-leb (length u.table) (length l) (omega arith)) in
        rw is record {
          result_is = rw (d.done room, (out.holds room).long, out.entry room);
          columns_are = d.kept room ∙ held_columns _ _ (out.holds room).is ∙ ap (λ (n : ℕ). columns_of n u.table) long;
        })
        (bool_cases (stopped put.stop))

-- a question
module _ (what : Ask) (letters : ℕ) (l w h : List ℕ) (used : ℕ) where
  abbrev reading : Table → Answer ℕ
  reading t = answered (told what letters t)

  told_why : (why : Refusal) → tell_call what letters (columns l w h) used ≡ refused why → ToldAs (tell_call what letters (columns l w h) used) (Err why)
  told_why why e = rw e record { result_is = refl }

  pub told_buffer : lengths_legal (columns l w h) ≡ false → ToldAs (tell_call what letters (columns l w h) used) (Err Buffer)
  told_buffer e = told_why Buffer (tells what letters (columns l w h) used ∙ on_buffer (Tell what) letters l w h used reading e)

  module _ {ix : List ℕ} {opened : Reply} (o : Opened (Tell what) letters l w h used ix opened) where
    pub told_refused : (why : Refusal) → opened ≡ Err why → ToldAs (tell_call what letters (columns l w h) used) (Err why)
    told_refused why e = told_why why (tells what letters (columns l w h) used ∙ on_refused (Tell what) letters l w h used reading o why e)

    pub told_done : {number : ℕ} → opened ≡ Ok tt → number ≡ told what letters (held l w h used) → ToldAs (tell_call what letters (columns l w h) used) (Ok number)
    told_done e r = rw (tells what letters (columns l w h) used ∙ on_done (Tell what) letters l w h used reading o e) record { result_is = ap {B = Result ℕ Refusal} Ok r }

-- the end of a call, with and without room
pub closed_full : {l w h l' w' h' : List ℕ} {used entry next : ℕ} {stop : Stop} → stopped stop ≡ true
    → (l' ≡ zero_from used l) × (w' ≡ zero_from used w) × (h' ≡ zero_from used h) → Closed l w h l' w' h' used stop entry next (Err Full)
closed_full {stop = stop} e z = record {
  cleared = λ _. columns_path _ _ z.0 z.1 z.2;
  refused = λ _. refl;
  kept = λ room. true_false (stopped stop) e room;
  done = λ room. true_false (stopped stop) e room;
}

pub closed_done : {l w h : List ℕ} {used entry next : ℕ} {stop : Stop} → stopped stop ≡ false → Closed l w h l w h used stop entry next (Ok record { used = next; entry = entry })
closed_done {stop = stop} e = record {
  cleared = λ over. true_false (stopped stop) over e;
  refused = λ over. true_false (stopped stop) over e;
  kept = λ _. refl;
  done = λ _. refl;
}

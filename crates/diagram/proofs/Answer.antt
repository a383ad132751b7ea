-- What an answered call on a table says of its checks.
use mathlib.Core.Path.{◌≡◌, sym, ◌∙◌}
use mathlib.Core.Bool.{Bool, true, ◌&&◌}
use Prim.Native.Nat.{ℕ, ◌<◌, ◌≤◌}
use native.Mathlib.Omega.{arith}
use lib.ListN.{length}
use lib.Dec.{leb}
use borrow.Author.Tests.{leb-true, le-leb}
use Rattle.refusal.specs.declared.Refusal.TheVariants.{Buffer, Unsound, Question, Full}
use Rattle.refusal.specs.Answer.{Answer, answered, check}
use Rattle.refusal.proofs.Answer.{same_answer, check_passed}
use Rattle.lists.proofs.Cases.{and_left, and_right}
use Rattle.diagram.specs.Pattern.{most_letters, patterns}
use Rattle.diagram.specs.Table.{Table, number_at}
use Rattle.diagram.specs.Store.{Stored, stored, store}
use Rattle.diagram.specs.Call.{Columns, lengths_legal, columns_sound, table_of, on_table, store_in, columns_after, used_after}
use Rattle.diagram.specs.Extends.{Extends}
use Rattle.diagram.proofs.Number.{number_at_extends}
use Rattle.diagram.proofs.Store.{IsStored, store_stored, store_present}
use Rattle.diagram.proofs.Columns.{Lengths, ColumnsSound, lengths_record, lengths_test, columns_record, columns_test, table_length_lem, table_columns, columns_table, columns_sound_lem, columns_lengths}

-- the checks before every answer that reads a table
pub record OnTable (letters : ℕ) (c : Columns) (used : ℕ) (question : Table → Bool) : Type 0 where
  pub lengths : Lengths c
  pub sound : ColumnsSound letters c used
  pub few : letters ≤ most_letters
  pub asked : question (table_of c used) ≡ true

module _ {A : Type 0} (letters : ℕ) (c : Columns) (used : ℕ) (question : Table → Bool) (next : Table → Answer A) where
  -- an answered call passed them
  pub on_table_answered : (a : A) → on_table letters c used question next ≡ answered a → OnTable letters c used question × (next (table_of c used) ≡ answered a)
  on_table_answered a e =
      let t : Table = table_of c used in
      let third : Answer A = check (leb letters most_letters && question t) Question (next t) in
      let one : (lengths_legal c ≡ true) × (check (columns_sound letters c used) Unsound third ≡ answered a) = check_passed (lengths_legal c) Buffer (check (columns_sound letters c used) Unsound third) a e in
      let two : (columns_sound letters c used ≡ true) × (third ≡ answered a) = check_passed (columns_sound letters c used) Unsound third a one.1 in
      let three : ((leb letters most_letters && question t) ≡ true) × (next t ≡ answered a) = check_passed (leb letters most_letters && question t) Question (next t) a two.1 in (
        record {
          lengths = lengths_record c one.0;
          sound = columns_record letters c used two.0;
          few = leb-true letters most_letters (and_left (leb letters most_letters) (question t) three.0);
          asked = and_right (leb letters most_letters) (question t) three.0;
        },
        three.1,
      )

  -- a call that passes them goes on
  pub on_table_next : OnTable letters c used question → on_table letters c used question next ≡ next (table_of c used)
  on_table_next h = rw (lengths_test c h.lengths, columns_test letters c used h.sound, le-leb letters most_letters h.few, h.asked)

-- a function stored in lent columns: what the call leaves
pub record StoredIn (letters : ℕ) (c : Columns) (used : ℕ) (f : ℕ → ℕ) (s : Stored) : Type 0 where
  -- it is the definition's
  pub is : s ≡ store letters 0 f (table_of c used)
  pub fits : length s.table ≤ length c.letter
  -- the columns afterwards are sound again and hold the table
  pub lengths : Lengths (columns_after c (answered s))
  pub sound : ColumnsSound letters (columns_after c (answered s)) (used_after used (answered s))
  pub table : table_of (columns_after c (answered s)) (used_after used (answered s)) ≡ s.table
  -- earlier entries are kept, with their numbers
  pub extends : Extends (table_of c used) s.table
  pub kept : (e p : ℕ) → e < used → number_at letters s.table e p ≡ number_at letters (table_of c used) e p
  -- the result is an entry, and has the function's number at each pattern
  pub within : s.entry < length s.table
  pub number : (p : ℕ) → p < patterns letters → number_at letters s.table s.entry p ≡ f p
  -- storing what is there adds nothing
  pub present : (e : ℕ) → e < used → ((p : ℕ) → p < patterns letters → number_at letters (table_of c used) e p ≡ f p) → s ≡ stored (table_of c used) e

module _ {letters : ℕ} {c : Columns} {used : ℕ} {question : Table → Bool} (h : OnTable letters c used question) (f : ℕ → ℕ) where
  long : length (table_of c used) ≡ used
  long = table_length_lem c h.lengths.low_long h.lengths.high_long used h.sound.fits

  store_in_fits : (s : Stored) → s ≡ store letters 0 f (table_of c used) → length s.table ≤ length c.letter → StoredIn letters c used f s
  unfolding columns_after
  store_in_fits s same room =
      let t : Table = table_of c used in
      let n : length t ≡ used = long in
      let g : IsStored letters letters 0 f t s = rw same (store_stored letters 0 f t h.few h.sound.table (omega arith)) in
      record {
        is = same;
        fits = room;
        lengths = columns_lengths (length c.letter) s.table h.lengths.least h.lengths.most room;
        sound = columns_sound_lem (length c.letter) s.table g.sound room;
        table = table_columns (length c.letter) s.table room;
        extends = g.extends;
        kept = λ e p l. number_at_extends e p h.few h.sound.table g.extends (omega arith);
        within = g.within;
        number = g.number;
        present = λ e l numbers. same ∙ store_present letters 0 f t e h.few h.sound.table (omega arith) (omega arith) (omega arith) numbers;
      }

  -- an answered call that stores
  pub store_answered : (s : Stored) → store_in letters c f (table_of c used) ≡ answered s → StoredIn letters c used f s
  store_answered s e =
      let u : Stored = store letters 0 f (table_of c used) in
      let passed : (leb (length u.table) (length c.letter) ≡ true) × (answered u ≡ answered s) = check_passed (leb (length u.table) (length c.letter)) Full (answered u) s e in
      let same : s ≡ u = sym (same_answer passed.1) in
      store_in_fits s same (rw same (leb-true (length u.table) (length c.letter) passed.0))

  -- a call that stores is answered where there is room
  pub store_room : length (store letters 0 f (table_of c used)).table ≤ length c.letter → store_in letters c f (table_of c used) ≡ answered (store letters 0 f (table_of c used))
  store_room room = rw (le-leb (length (store letters 0 f (table_of c used)).table) (length c.letter) room)

  -- where the function is there, the answer is its entry
  pub store_there : (e : ℕ) → e < used → ((p : ℕ) → p < patterns letters → number_at letters (table_of c used) e p ≡ f p)
      → store_in letters c f (table_of c used) ≡ answered (stored (table_of c used) e)
  store_there e l numbers =
      let t : Table = table_of c used in
      let n : length t ≡ used = long in
      let same : store letters 0 f t ≡ stored t e = store_present letters 0 f t e h.few h.sound.table (omega arith) (omega arith) (omega arith) numbers in
      rw (same, le-leb (length t) (length c.letter) (omega (arith, h.sound.fits)))

-- a call that stores a function of the table
abbrev pub storing : ℕ → Columns → ℕ → (Table → Bool) → (Table → ℕ → ℕ) → Answer Stored
storing letters c used question f = on_table letters c used question (λ t. store_in letters c (f t) t)

module _ (letters : ℕ) (c : Columns) (used : ℕ) (question : Table → Bool) (f : Table → ℕ → ℕ) where
  -- an answered call: its checks
  pub storing_checks : (s : Stored) → storing letters c used question f ≡ answered s → OnTable letters c used question
  storing_checks s e = (on_table_answered letters c used question (λ t. store_in letters c (f t) t) s e).0

  -- and what it leaves
  pub storing_stored : (s : Stored) → storing letters c used question f ≡ answered s → StoredIn letters c used (f (table_of c used)) s
  storing_stored s e = store_answered (storing_checks s e) (f (table_of c used)) s (on_table_answered letters c used question (λ t. store_in letters c (f t) t) s e).1

  -- where there is room the call is answered
  pub storing_room : OnTable letters c used question → length (store letters 0 (f (table_of c used)) (table_of c used)).table ≤ length c.letter
      → storing letters c used question f ≡ answered (store letters 0 (f (table_of c used)) (table_of c used))
  storing_room h room = on_table_next letters c used question (λ t. store_in letters c (f t) t) h ∙ store_room h (f (table_of c used)) room

  -- where the function is there the answer is its entry
  pub storing_there : OnTable letters c used question → (e : ℕ) → e < used → ((p : ℕ) → p < patterns letters → number_at letters (table_of c used) e p ≡ f (table_of c used) p)
      → storing letters c used question f ≡ answered (stored (table_of c used) e)
  storing_there h e l numbers = on_table_next letters c used question (λ t. store_in letters c (f t) t) h ∙ store_there h (f (table_of c used)) e l numbers

-- an answer with an entry of the table leaves the columns
pub columns_kept : {letters : ℕ} {c : Columns} {used : ℕ} {question : Table → Bool} (e : ℕ) → OnTable letters c used question
    → columns_after c (answered (stored (table_of c used) e)) ≡ c
unfolding columns_after
columns_kept {c = c} {used = used} e h = columns_table c used h.lengths h.sound

-- and the used count
pub used_kept : {letters : ℕ} {c : Columns} {used : ℕ} {question : Table → Bool} (e : ℕ) → OnTable letters c used question
    → used_after used (answered (stored (table_of c used) e)) ≡ used
used_kept {c = c} {used = used} e h = table_length_lem c h.lengths.low_long h.lengths.high_long used h.sound.fits

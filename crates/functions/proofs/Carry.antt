-- What the recursions carry from one store to the next.
use mathlib.Core.Path.{◌≡◌, sym, ◌∙◌, ap}
use mathlib.Core.Logic.{⊎_elim}
use mathlib.Core.List.{List}
use mathlib.Core.Bool.{Bool, true, false, cond}
use Prim.Native.Nat.{ℕ, ◌+◌, ◌-◌, ◌<◌, ◌≤◌}
use native.Mathlib.Omega.{arith}
use lib.ListN.{length, get_or}
use lib.Seq.{get_or-take}
use lib.Dec.{eqb}
use Rattle.lists.proofs.Cases.{eq_or_ne}
use Rattle.diagram.specs.Pattern.{most_letters}
use Rattle.diagram.specs.Table.{Entry, Table, blank, terminal_letter, branch, entry_at, part_of}
use Rattle.diagram.specs.Store.{Stored, stored, add, join, both, store}
use Rattle.diagram.specs.Call.{columns, lengths_legal}
use Rattle.diagram.specs.Held.{entries, held, held_sound}
use Rattle.diagram.proofs.Sound.{Branch, Sound, sound_record, sound_test}
use Rattle.diagram.specs.Extends.{Extends}
use Rattle.diagram.proofs.Add.{extends_trans, added}
use Rattle.diagram.proofs.Number.{part_low, part_high, part_self, part_within, part_larger}
use Rattle.diagram.proofs.Store.{IsStored, store_stored, join_same, join_differ, join_extends}
use Rattle.diagram.proofs.Columns.{Lengths, lengths_record}
use Rattle.diagram.proofs.Held.{HeldSound, entries_at, held_at, held_length, held_record}
use Rattle.table.specs.declared.Put.{Put}
use Rattle.table.specs.declared.Stop.TheVariants.{Going}
use Rattle.table.specs.Stop.{stopped}
use Rattle.table.specs.Holds.{Holds, Judged, Outcome}
use Rattle.table.proofs.Outcomes.{holds_table, holds_again, outcome_there, outcome_extends, outcome_stops}
use Rattle.functions.specs.Open.{Legible, Open, Operand, PartsOf}

-- a function whose halves at a letter are known: the two stores and the join
module _ {letters : ℕ} {t : Table} (m : ℕ) (f low high : ℕ → ℕ) (few : letters ≤ most_letters) (s : Sound letters t)
    (halved : store letters 0 f t ≡ both m (store letters 0 low t) (λ u. store letters 0 high u)) where
  abbrev first : Stored
  first = store letters 0 low t

  abbrev second : Stored
  second = store letters 0 high first.table

  pub first_stored_lem : IsStored letters letters 0 low t (store letters 0 low t)
  first_stored_lem = store_stored letters 0 low t few s (omega arith)

  pub second_stored : IsStored letters letters 0 high (store letters 0 low t).table (store letters 0 high (store letters 0 low t).table)
  second_stored = store_stored letters 0 high first.table few first_stored_lem.sound (omega arith)

  whole : store letters 0 f t ≡ join m first second
  unfolding both
  whole = halved

  -- no room for the low part
  pub first_full : {l w h ix : List ℕ} {r : Put} → Outcome t (store letters 0 low t) l w h ix r → stopped r.stop ≡ true → Outcome t (store letters 0 f t) l w h ix r
  first_full o full = outcome_stops o (store letters 0 f t) full (rw whole (extends_trans second_stored.extends (join_extends m first second)))

  -- none for the high part
  pub second_full : {l w h ix : List ℕ} {r : Put} → Outcome (store letters 0 low t).table (store letters 0 high (store letters 0 low t).table) l w h ix r → stopped r.stop ≡ true
      → Outcome t (store letters 0 f t) l w h ix r
  second_full o full = outcome_extends (outcome_stops o (store letters 0 f t) full (rw whole (join_extends m first second))) first_stored_lem.extends

  -- the root
  pub joined : {l w h ix : List ℕ} {r : Put} (i j : ℕ) → i ≡ (store letters 0 low t).entry → j ≡ (store letters 0 high (store letters 0 low t).table).entry
      → Outcome (store letters 0 high (store letters 0 low t).table).table (join m (stored (store letters 0 high (store letters 0 low t).table).table i) (stored (store letters 0 high (store letters 0 low t).table).table j)) l w h ix r
      → Outcome t (store letters 0 f t) l w h ix r
  unfolding join
  joined i j ei ej o = rw whole (outcome_extends (rw (ei, ej) at o) (extends_trans first_stored_lem.extends second_stored.extends))

module _ {letters : ℕ} {l w h : List ℕ} {used : ℕ} (o : Legible letters l w h used) where
  -- the table is sound
  pub legible_sound : Sound letters (held l w h used)
  legible_sound = sound_record letters (held l w h used) o.sound

  -- and as long as the used count
  pub legible_long : length (held l w h used) ≡ used
  legible_long = held_length l w h o.low_long o.high_long used o.fits

  -- so there is an entry 0
  pub legible_some : 0 < used
  legible_some = omega (arith, legible_sound.three, legible_long)

  -- an entry's numbers stand in the columns
  pub legible_at : (e : ℕ) → e < used → entry_at (held l w h used) e ≡ record { letter = get_or l e 0; low = get_or w e 0; high = get_or h e 0 }
  legible_at e g = held_at l w h o.low_long o.high_long used e g

  pub letter_at_lem : (e : ℕ) → e < used → (entry_at (held l w h used) e).letter ≡ get_or l e 0
  letter_at_lem e g = ap (λ (x : Entry). x.letter) (legible_at e g)

  pub low_at : (e : ℕ) → e < used → (entry_at (held l w h used) e).low ≡ get_or w e 0
  low_at e g = ap (λ (x : Entry). x.low) (legible_at e g)

  pub high_at : (e : ℕ) → e < used → (entry_at (held l w h used) e).high ≡ get_or h e 0
  high_at e g = ap (λ (x : Entry). x.high) (legible_at e g)

  -- a letter of an entry that is no terminal's is one of the letters
  pub branch_letter : (e : ℕ) → e < used → (get_or l e 0 ≡ terminal_letter → ⊥) → get_or l e 0 < letters
  branch_letter e g node =
      let at : (entry_at (held l w h used) e).letter ≡ get_or l e 0 = letter_at_lem e g in
      let long : length (held l w h used) ≡ used = legible_long in
      let b : Branch letters (held l w h used) e (entry_at (held l w h used) e) = (legible_sound.legal e (omega arith)).node (λ q. node (sym at ∙ q)) in
      omega (arith, b.letter_in)

  -- a letter past them is a terminal's
  pub past_letter : (e : ℕ) → e < used → terminal_letter ≤ get_or l e 0 → get_or l e 0 ≡ terminal_letter
  past_letter e g le =
      ⊎_elim
      (λ (q : get_or l e 0 ≡ terminal_letter). q)
      (λ (n : get_or l e 0 ≡ terminal_letter → ⊥). absurd (omega (arith, branch_letter e g n, o.few)))
      (eq_or_ne (get_or l e 0) terminal_letter)

  -- the parts of a row are the table's
  pub parts_table : {m e low high : ℕ} → e < used → PartsOf (entries l w h) m e low high → PartsOf (held l w h used) m e low high
  parts_table {m} {e} g q =
      let same : (bit : ℕ) → part_of (entries l w h) m bit e ≡ part_of (held l w h used) m bit e =
      λ bit. ap (λ (y : Entry). cond (eqb y.letter m) (cond (eqb bit 1) y.high y.low) e) (sym (get_or-take used (entries l w h) e blank g)) in
      record { low_is = q.low_is ∙ same 0; high_is = q.high_is ∙ same 1 }

  -- the parts at a letter that is not behind an operand are operands with one letter less
  pub part_operands : {m e low high left : ℕ} → m < letters → letters ≤ m + left → m ≤ get_or l e 0 → Operand letters (held l w h used) used left e
      → PartsOf (entries l w h) m e low high
      → Operand letters (held l w h used) used (left - 1) low × Operand letters (held l w h used) used (left - 1) high
  part_operands {m} {e} {low} {high} {left} small room le x q =
      let t : Table = held l w h used in
      let long : length t ≡ used = legible_long in
      let at : (entry_at t e).letter ≡ get_or l e 0 = letter_at_lem e x.within in
      let few : letters ≤ most_letters = o.few in
      let in_table : e < length t = omega (arith, x.within) in
      let operand : (bit part : ℕ) → part ≡ part_of t m bit e → Operand letters t used (left - 1) part =
      λ bit part same.
      let within : part_of t m bit e < length t = part_within t m e bit legible_sound (omega arith) in_table in
      let larger : m < (entry_at t (part_of t m bit e)).letter = part_larger t m e bit legible_sound (omega arith) in_table (omega arith) in
      rw same record { within = omega arith; from = omega arith } in
      (operand 0 low (parts_table x.within q).low_is, operand 1 high (parts_table x.within q).high_is)

-- columns that hold a sound table are open
pub open_next : {letters : ℕ} {l w h ix : List ℕ} {t : Table} {used : ℕ} → letters ≤ most_letters → Sound letters t → Holds l w h ix t used → Open letters l w h ix used
open_next {letters} {l} {w} {h} {ix} {t} {used} few s g =
    let e : held l w h used ≡ t = holds_table g in
    record {
      legible = record {
        few = few;
        low_long = g.ready.sized.low_long;
        high_long = g.ready.sized.high_long;
        fits = g.ready.fits;
        sound = rw e (sound_test letters t s);
      };
      holds = holds_again g;
    }

-- so are those of a table that was found sound
pub judged_open : {letters : ℕ} {l w h ix : List ℕ} {used : ℕ} {r : Bool} → Judged letters l w h used ix r → r ≡ true → letters ≤ most_letters → Open letters l w h ix used
judged_open {letters} {l} {w} {h} {used = used} j e few = open_next few (held_record letters l w h used (sym j.is ∙ e)).table (j.holds e)

-- sound columns of legal lengths can be read
pub sound_legible : {letters : ℕ} {l w h : List ℕ} {used : ℕ} → lengths_legal (columns l w h) ≡ true → held_sound letters l w h used ≡ true → letters ≤ most_letters → Legible letters l w h used
sound_legible {letters} {l} {w} {h} {used} legal sound few =
    let long : Lengths (columns l w h) = lengths_record (columns l w h) legal in
    let s : HeldSound letters l w h used = held_record letters l w h used sound in
    record { few = few; low_long = long.low_long; high_long = long.high_long; fits = s.fits; sound = sound_test letters (held l w h used) s.table }

-- every entry is an operand for all the letters
pub whole_operand : {letters : ℕ} {t : Table} {used e : ℕ} → e < used → Operand letters t used letters e
whole_operand g = record { within = g; from = omega arith }

-- an operand stays one in an extension
pub operand_next : {letters : ℕ} {l w h ix : List ℕ} {t u : Table} {old used left e : ℕ} → length t ≡ old → Extends t u → Holds l w h ix u used → Operand letters t old left e
    → Operand letters (held l w h used) used left e
operand_next {letters} {l} {w} {h} {ix} {t} {u} {old} {used} {left} {e} long x g o =
    rw (holds_table g) record {
      within = omega (arith, g.long, x.longer, o.within);
      from = rw (x.kept e (omega (arith, o.within))) o.from;
    }

-- equal parts: the entry is there
pub join_there : {l w h ix : List ℕ} {t : Table} {used : ℕ} (m a b : ℕ) → Holds l w h ix t used → a ≡ b
    → Outcome t (join m (stored t a) (stored t b)) l w h ix (record { stop = Going; entry = b; used = used })
join_there {t = t} m a b s e = rw (join_same m (stored t a) (stored t b) e) (outcome_there s b)

-- different parts: their branch
pub join_add : {l w h ix : List ℕ} {t : Table} {r : Put} (m a b : ℕ) → (a ≡ b → ⊥) → Outcome t (add (branch m a b) t) l w h ix r → Outcome t (join m (stored t a) (stored t b)) l w h ix r
join_add {t = t} m a b n o = rw (join_differ m (stored t a) (stored t b) n) o

-- the parts of a row
module _ (l w h : List ℕ) (m e : ℕ) (low_long : length w ≡ length l) (high_long : length h ≡ length l) where
  row_letter : (entry_at (entries l w h) e).letter ≡ get_or l e 0
  row_letter = ap (λ (x : Entry). x.letter) (entries_at l w h low_long high_long e)

  -- that branches on the letter
  pub parts_own : get_or l e 0 ≡ m → PartsOf (entries l w h) m e (get_or w e 0) (get_or h e 0)
  parts_own q = record {
    low_is = sym (part_low (entries l w h) m e (row_letter ∙ q) ∙ ap (λ (x : Entry). x.low) (entries_at l w h low_long high_long e));
    high_is = sym (part_high (entries l w h) m e (row_letter ∙ q) ∙ ap (λ (x : Entry). x.high) (entries_at l w h low_long high_long e));
  }

  -- that does not
  pub parts_same : (get_or l e 0 ≡ m → ⊥) → PartsOf (entries l w h) m e e e
  parts_same n = record {
    low_is = sym (part_self (entries l w h) m e 0 (λ q. n (sym row_letter ∙ q)));
    high_is = sym (part_self (entries l w h) m e 1 (λ q. n (sym row_letter ∙ q)));
  }

-- the entry of two joined parts is one of the table's
pub join_within : {l w h ix l1 w1 h1 ix1 : List ℕ} {t : Table} {used : ℕ} {r : Put} (m a b : ℕ) → Holds l w h ix t used → b < used
    → Outcome t (join m (stored t a) (stored t b)) l1 w1 h1 ix1 r → stopped r.stop ≡ false → r.entry < 65536
join_within {l1 = l1} {t = t} {r = r} m a b g small o room =
    let rows : Holds _ _ _ _ (join m (stored t a) (stored t b)).table r.used = o.holds room in
    let within : (join m (stored t a) (stored t b)).entry < length (join m (stored t a) (stored t b)).table =
    ⊎_elim
    (λ (e : a ≡ b). rw (join_same m (stored t a) (stored t b) e) (omega (arith, g.long)))
    (λ (n : a ≡ b → ⊥). rw (join_differ m (stored t a) (stored t b) n) (added (branch m a b) t).within)
    (eq_or_ne a b) in
    omega (arith, o.entry room, rows.long, rows.ready.fits, rows.ready.sized.most)

-- What the schedule puts at a node at T: its first entry for it.
use mathlib.Core.Path.{◌≡◌, refl, ◌∙◌, ap}
use mathlib.Core.Logic.{⊎_elim}
use mathlib.Core.List.{List, [], ◌∷◌}
use mathlib.Core.Bool.{Bool, true, false, ◌&&◌}
use Prim.Native.Nat.{ℕ, zero, suc, ◌+◌, ◌*◌, ◌<◌, ◌≤◌}
use native.Mathlib.Omega.{arith}
use lib.ListN.{length, get_or}
use lib.Dec.{eqb}
use borrow.Author.Tests.{ne_eqb}
use Rattle.lists.proofs.Cases.{lt_or_ge}
use Rattle.format.specs.declared.Entry.{Entry}
use Rattle.format.specs.Circuit.{no_entry}
use Rattle.rules.specs.Arrive.{source_at, scheduled}
use Rattle.net.specs.Net.{entries_place, letters_place, input_place, source_place, time_place, at, net_circuit}
use Rattle.net.specs.Laid.{Within}
use Rattle.net.specs.Due.{no_source, Due}
use Rattle.net.proofs.Laying.{schedule_length, entry_at_lem}

-- an entry is for node n at T
abbrev is_for : ℕ → ℕ → Entry → Bool
is_for time n e = eqb e.time.0 time && eqb e.input n

-- the first entry for a node gives its source
scheduled_first : (es : List Entry) (time n p present i : ℕ) → i < length es → ((j : ℕ) → j < i → is_for time n (get_or es j no_entry) ≡ false) → is_for time n (get_or es i no_entry) ≡ true
    → scheduled es time n p present ≡ source_at (get_or es i no_entry).source p
unfolding scheduled
scheduled_first [] time n p present i h before this = absurd (omega arith)
scheduled_first (e ∷ es) time n p present zero h before this = rw this
scheduled_first (e ∷ es) time n p present (suc i) h before this =
    let first : is_for time n e ≡ false = before zero (omega arith) in
    rw first (scheduled_first es time n p present i (omega arith) (λ j l. before (suc j) (omega arith)) this)

-- with no entry for it a node keeps its value
scheduled_empty : (es : List Entry) (time n p present : ℕ) → ((j : ℕ) → j < length es → is_for time n (get_or es j no_entry) ≡ false) → scheduled es time n p present ≡ present
unfolding scheduled
scheduled_empty [] time n p present none = refl
scheduled_empty (e ∷ es) time n p present none =
    let first : is_for time n e ≡ false = none zero (omega arith) in
    rw first (scheduled_empty es time n p present (λ j l. none (suc j) (omega arith)))

-- entry i of the column is for node n at T
abbrev pub is_for_at : List ℕ → ℕ → ℕ → ℕ → Bool
is_for_at net time n i = eqb (at net (time_place + i)) time && eqb (at net (input_place + i)) n

-- none of the first entries is
abbrev pub NoneFor : List ℕ → ℕ → ℕ → ℕ → Type 0
NoneFor net time n i = (j : ℕ) → j < i → is_for_at net time n j ≡ false

pub none_first : (net : List ℕ) (time n : ℕ) → NoneFor net time n 0
none_first net time n j h = absurd (omega arith)

pub none_next : (net : List ℕ) (time n i : ℕ) → NoneFor net time n i → is_for_at net time n i ≡ false → NoneFor net time n (i + 1)
none_next net time n i before this j h =
    ⊎_elim
    (λ (l : j < i). before j l)
    (λ (l : i ≤ j).
    let e : j ≡ i = omega arith in
    rw e this)
    (lt_or_ge j i)

module _ {net : List ℕ} (laid : Within net) (time n : ℕ) where
  for_at : (i : ℕ) → i < at net entries_place → is_for time n (get_or (net_circuit net).schedule i no_entry) ≡ is_for_at net time n i
  for_at i h = ap (is_for time n) (entry_at_lem net i h)

  -- the entry that is found
  pub due_found : (i : ℕ) → i < at net entries_place → NoneFor net time n i → is_for_at net time n i ≡ true
      → Due (at net letters_place) (net_circuit net).schedule time n (at net (source_place + i))
  due_found i h before this =
      let small : at net (source_place + i) < 2 + 2 * at net letters_place = (laid.entry i h).source in
      let other : eqb (at net (source_place + i)) no_source ≡ false = ne_eqb (at net (source_place + i)) no_source (λ e. omega (arith, laid.letters)) in
      record {
        legal = λ _. small;
        is = λ p present.
            rw other
            (scheduled_first (net_circuit net).schedule time n p present i (omega (arith, schedule_length net)) (λ j l. for_at j (omega arith) ∙ before j l) (for_at i h ∙ this)
            ∙ ap (λ (e : Entry). source_at e.source p) (entry_at_lem net i h));
      }

  -- none is
  pub due_none : (i : ℕ) → at net entries_place ≤ i → NoneFor net time n i → Due (at net letters_place) (net_circuit net).schedule time n no_source
  due_none i h before = record {
    legal = λ z. absurd (z refl);
    is = λ p present.
        scheduled_empty (net_circuit net).schedule time n p present
        (λ j l. let small : j < at net entries_place = omega (arith, schedule_length net) in for_at j small ∙ before j (omega arith));
  }

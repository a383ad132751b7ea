-- What the calls on a table answer.
use mathlib.Core.Path.{◌≡◌, refl, sym, ◌∙◌}
use mathlib.Core.Bool.{Bool, true, ◌&&◌}
use Prim.Native.Nat.{ℕ, ◌<◌, ◌≤◌}
use native.Mathlib.Omega.{arith}
use lib.ListN.{length}
use lib.Dec.{leb, ltb}
use borrow.Author.Tests.{ltb-true, leb-true, lt-ltb, le-leb}
use Rattle.refusal.specs.declared.Refusal.TheVariants.{Buffer}
use Rattle.refusal.specs.Answer.{answered}
use Rattle.refusal.proofs.Answer.{same_answer, check_passed}
use Rattle.lists.specs.Tests.{below}
use Rattle.lists.proofs.Cases.{and_left, and_right}
use Rattle.lists.proofs.Below.{below_each, each_below}
use Rattle.diagram.specs.declared.Operation.{Operation}
use Rattle.diagram.specs.Pattern.{patterns}
use Rattle.diagram.specs.Table.{Table, number_at}
use Rattle.diagram.specs.Sound.{sound, entry_legal, distinct, fixed_terminals}
use Rattle.diagram.specs.Store.{Stored, stored, store, fresh}
use Rattle.diagram.specs.Operation.{applied, chosen, letter_fixed, two_valued, count}
use Rattle.diagram.specs.Call.{Columns, lengths_legal, table_of, columns_of, fresh_call, apply_call, choose_call, fix_call, number_call, count_call, columns_after}
use Rattle.diagram.proofs.Sound.{Sound, sound_record}
use Rattle.diagram.proofs.Columns.{Lengths, ColumnsSound, lengths_record, columns_sound_lem}
use Rattle.diagram.proofs.Answer.{OnTable, StoredIn, on_table_answered, on_table_next, storing, storing_checks, storing_stored, storing_room, storing_there}

-- a function of two values takes no number past 1
pub two_valued_each : (letters : ℕ) (t : Table) (e : ℕ) → two_valued letters t e ≡ true → (p : ℕ) → p < patterns letters → number_at letters t e p ≤ 1
unfolding two_valued
two_valued_each letters t e h p l = leb-true (number_at letters t e p) 1 (below_each (patterns letters) (λ q. leb (number_at letters t e q) 1) h p l)

-- numbers at most 1 are two values
pub each_two_valued : (letters : ℕ) (t : Table) (e : ℕ) → ((p : ℕ) → p < patterns letters → number_at letters t e p ≤ 1) → two_valued letters t e ≡ true
unfolding two_valued
each_two_valued letters t e h = each_below (patterns letters) (λ q. leb (number_at letters t e q) 1) (λ p l. le-leb (number_at letters t e p) 1 (h p l))

-- the fresh table is sound for every count of letters
pub fresh_sound : (letters : ℕ) → Sound letters fresh
unfolding sound entry_legal distinct fixed_terminals below
fresh_sound letters = sound_record letters fresh refl

-- columns of legal lengths are made a fresh table of their length
pub fresh_after : (c : Columns) → lengths_legal c ≡ true → columns_after c (fresh_call c) ≡ columns_of (length c.letter) fresh
unfolding fresh_call columns_after
fresh_after c e = rw e

module _ (c : Columns) (s : Stored) (e : fresh_call c ≡ answered s) where
  -- an answered fresh is the fresh table
  pub fresh_answer : Lengths c × (s ≡ stored fresh 0)
  unfolding fresh_call
  fresh_answer =
      let passed : (lengths_legal c ≡ true) × (answered (stored fresh 0) ≡ answered s) = check_passed (lengths_legal c) Buffer (answered (stored fresh 0)) s e in
      (lengths_record c passed.0, sym (same_answer passed.1))

  -- and leaves sound columns
  pub fresh_columns : (letters : ℕ) → ColumnsSound letters (columns_after c (answered s)) (length s.table)
  unfolding columns_after
  fresh_columns letters = rw fresh_answer.1 (columns_sound_lem (length c.letter) fresh (fresh_sound letters) (omega (arith, fresh_answer.0.least)))

-- what smaller and sum ask
abbrev pub apply_question : ℕ → ℕ → ℕ → Table → Bool
apply_question used a b t = ltb a used && ltb b used

-- choose's
abbrev pub choose_question : ℕ → ℕ → ℕ → ℕ → ℕ → Table → Bool
choose_question letters used selector a b t = ltb selector used && ltb a used && ltb b used && two_valued letters t selector

-- fix's
abbrev pub fix_question : ℕ → ℕ → ℕ → ℕ → ℕ → Table → Bool
fix_question letters used e k bit t = ltb e used && ltb k letters && leb bit 1

-- the number's
abbrev pub number_question : ℕ → ℕ → ℕ → ℕ → Table → Bool
number_question letters used e p t = ltb e used && ltb p (patterns letters)

-- the count's
abbrev pub count_question : ℕ → ℕ → ℕ → Table → Bool
count_question letters used e t = ltb e used && two_valued letters t e

-- smaller and sum ask for two entries of the table
pub apply_asked : (used a b : ℕ) (t : Table) → apply_question used a b t ≡ true → (a < used) × (b < used)
apply_asked used a b t e = (ltb-true a used (and_left (ltb a used) (ltb b used) e), ltb-true b used (and_right (ltb a used) (ltb b used) e))

-- two entries of the table may be asked
pub apply_asks : (used a b : ℕ) (t : Table) → a < used → b < used → apply_question used a b t ≡ true
apply_asks used a b t ha hb = rw (lt-ltb a used ha, lt-ltb b used hb)

-- choose asks for a selector of two values
pub choose_asked : (letters used selector a b : ℕ) (t : Table) → choose_question letters used selector a b t ≡ true
    → (selector < used) × (a < used) × (b < used) × ((p : ℕ) → p < patterns letters → number_at letters t selector p ≤ 1)
choose_asked letters used selector a b t e =
    let x : Bool = ltb selector used in
    let y : Bool = ltb a used in
    let z : Bool = ltb b used in
    let xyz : (x && y && z) ≡ true = and_left (x && y && z) (two_valued letters t selector) e in
    let xy : (x && y) ≡ true = and_left (x && y) z xyz in (
      ltb-true selector used (and_left x y xy),
      ltb-true a used (and_right x y xy),
      ltb-true b used (and_right (x && y) z xyz),
      two_valued_each letters t selector (and_right (x && y && z) (two_valued letters t selector) e),
    )

-- such entries may be asked
pub choose_asks : (letters used selector a b : ℕ) (t : Table) → selector < used → a < used → b < used → ((p : ℕ) → p < patterns letters → number_at letters t selector p ≤ 1)
    → choose_question letters used selector a b t ≡ true
choose_asks letters used selector a b t hs ha hb two = rw (lt-ltb selector used hs, lt-ltb a used ha, lt-ltb b used hb, each_two_valued letters t selector two)

-- fix asks for a letter and a bit
pub fix_asked : (letters used i k bit : ℕ) (t : Table) → fix_question letters used i k bit t ≡ true → (i < used) × (k < letters) × (bit ≤ 1)
fix_asked letters used i k bit t e =
    let x : Bool = ltb i used in
    let y : Bool = ltb k letters in
    let xy : (x && y) ≡ true = and_left (x && y) (leb bit 1) e in
    (ltb-true i used (and_left x y xy), ltb-true k letters (and_right x y xy), leb-true bit 1 (and_right (x && y) (leb bit 1) e))

-- such a letter and bit may be asked
pub fix_asks : (letters used i k bit : ℕ) (t : Table) → i < used → k < letters → bit ≤ 1 → fix_question letters used i k bit t ≡ true
fix_asks letters used i k bit t hi hk hb = rw (lt-ltb i used hi, lt-ltb k letters hk, le-leb bit 1 hb)

-- the number asks for a pattern
pub number_asked : (letters used e p : ℕ) (t : Table) → number_question letters used e p t ≡ true → (e < used) × (p < patterns letters)
number_asked letters used e p t q =
    (ltb-true e used (and_left (ltb e used) (ltb p (patterns letters)) q), ltb-true p (patterns letters) (and_right (ltb e used) (ltb p (patterns letters)) q))

-- such a pattern may be asked
pub number_asks : (letters used e p : ℕ) (t : Table) → e < used → p < patterns letters → number_question letters used e p t ≡ true
number_asks letters used e p t he hp = rw (lt-ltb e used he, lt-ltb p (patterns letters) hp)

-- the count asks for two values
pub count_asked : (letters used e : ℕ) (t : Table) → count_question letters used e t ≡ true → (e < used) × ((p : ℕ) → p < patterns letters → number_at letters t e p ≤ 1)
count_asked letters used e t q =
    (ltb-true e used (and_left (ltb e used) (two_valued letters t e) q), two_valued_each letters t e (and_right (ltb e used) (two_valued letters t e) q))

-- such an entry may be asked
pub count_asks : (letters used e : ℕ) (t : Table) → e < used → ((p : ℕ) → p < patterns letters → number_at letters t e p ≤ 1) → count_question letters used e t ≡ true
count_asks letters used e t he two = rw (lt-ltb e used he, each_two_valued letters t e two)

-- smaller and sum
module _ (o : Operation) (letters : ℕ) (c : Columns) (used a b : ℕ) where
  -- the call stores a function
  pub apply_is : apply_call o letters c used a b ≡ storing letters c used (apply_question used a b) (λ t. applied letters t o a b)
  unfolding apply_call
  apply_is = refl

  -- an answered call: its checks
  pub apply_checks : (s : Stored) → apply_call o letters c used a b ≡ answered s → OnTable letters c used (apply_question used a b)
  apply_checks s e = storing_checks letters c used (apply_question used a b) (λ t. applied letters t o a b) s (sym apply_is ∙ e)

  -- and what it leaves: the result's number is the operation's at each pattern
  pub apply_stored : (s : Stored) → apply_call o letters c used a b ≡ answered s → StoredIn letters c used (applied letters (table_of c used) o a b) s
  apply_stored s e = storing_stored letters c used (apply_question used a b) (λ t. applied letters t o a b) s (sym apply_is ∙ e)

  -- where there is room the call is answered
  pub apply_room : OnTable letters c used (apply_question used a b) → length (store letters 0 (applied letters (table_of c used) o a b) (table_of c used)).table ≤ length c.letter
      → apply_call o letters c used a b ≡ answered (store letters 0 (applied letters (table_of c used) o a b) (table_of c used))
  apply_room h room = apply_is ∙ storing_room letters c used (apply_question used a b) (λ t. applied letters t o a b) h room

  -- where the result is there the answer is its entry
  pub apply_there : OnTable letters c used (apply_question used a b) → (e : ℕ) → e < used
      → ((p : ℕ) → p < patterns letters → number_at letters (table_of c used) e p ≡ applied letters (table_of c used) o a b p)
      → apply_call o letters c used a b ≡ answered (stored (table_of c used) e)
  apply_there h e l numbers = apply_is ∙ storing_there letters c used (apply_question used a b) (λ t. applied letters t o a b) h e l numbers

-- choose
module _ (letters : ℕ) (c : Columns) (used selector a b : ℕ) where
  -- the call stores a function
  pub choose_is : choose_call letters c used selector a b ≡ storing letters c used (choose_question letters used selector a b) (λ t. chosen letters t selector a b)
  unfolding choose_call
  choose_is = refl

  -- an answered call: its checks
  pub choose_checks : (s : Stored) → choose_call letters c used selector a b ≡ answered s → OnTable letters c used (choose_question letters used selector a b)
  choose_checks s e = storing_checks letters c used (choose_question letters used selector a b) (λ t. chosen letters t selector a b) s (sym choose_is ∙ e)

  -- and what it leaves: the result's number is the chosen one at each pattern
  pub choose_stored : (s : Stored) → choose_call letters c used selector a b ≡ answered s → StoredIn letters c used (chosen letters (table_of c used) selector a b) s
  choose_stored s e = storing_stored letters c used (choose_question letters used selector a b) (λ t. chosen letters t selector a b) s (sym choose_is ∙ e)

  -- where there is room the call is answered
  pub choose_room : OnTable letters c used (choose_question letters used selector a b) → length (store letters 0 (chosen letters (table_of c used) selector a b) (table_of c used)).table ≤ length c.letter
      → choose_call letters c used selector a b ≡ answered (store letters 0 (chosen letters (table_of c used) selector a b) (table_of c used))
  choose_room h room = choose_is ∙ storing_room letters c used (choose_question letters used selector a b) (λ t. chosen letters t selector a b) h room

  -- where the result is there the answer is its entry
  pub choose_there : OnTable letters c used (choose_question letters used selector a b) → (e : ℕ) → e < used
      → ((p : ℕ) → p < patterns letters → number_at letters (table_of c used) e p ≡ chosen letters (table_of c used) selector a b p)
      → choose_call letters c used selector a b ≡ answered (stored (table_of c used) e)
  choose_there h e l numbers = choose_is ∙ storing_there letters c used (choose_question letters used selector a b) (λ t. chosen letters t selector a b) h e l numbers

-- fix
module _ (letters : ℕ) (c : Columns) (used i k bit : ℕ) where
  -- the call stores a function
  pub fix_is : fix_call letters c used i k bit ≡ storing letters c used (fix_question letters used i k bit) (λ t. letter_fixed letters t i k bit)
  unfolding fix_call
  fix_is = refl

  -- an answered call: its checks
  pub fix_checks : (s : Stored) → fix_call letters c used i k bit ≡ answered s → OnTable letters c used (fix_question letters used i k bit)
  fix_checks s e = storing_checks letters c used (fix_question letters used i k bit) (λ t. letter_fixed letters t i k bit) s (sym fix_is ∙ e)

  -- and what it leaves: the result's number is the entry's with the letter at the bit at each pattern
  pub fix_stored : (s : Stored) → fix_call letters c used i k bit ≡ answered s → StoredIn letters c used (letter_fixed letters (table_of c used) i k bit) s
  fix_stored s e = storing_stored letters c used (fix_question letters used i k bit) (λ t. letter_fixed letters t i k bit) s (sym fix_is ∙ e)

  -- where there is room the call is answered
  pub fix_room : OnTable letters c used (fix_question letters used i k bit) → length (store letters 0 (letter_fixed letters (table_of c used) i k bit) (table_of c used)).table ≤ length c.letter
      → fix_call letters c used i k bit ≡ answered (store letters 0 (letter_fixed letters (table_of c used) i k bit) (table_of c used))
  fix_room h room = fix_is ∙ storing_room letters c used (fix_question letters used i k bit) (λ t. letter_fixed letters t i k bit) h room

  -- where the result is there the answer is its entry
  pub fix_there : OnTable letters c used (fix_question letters used i k bit) → (e : ℕ) → e < used
      → ((p : ℕ) → p < patterns letters → number_at letters (table_of c used) e p ≡ letter_fixed letters (table_of c used) i k bit p)
      → fix_call letters c used i k bit ≡ answered (stored (table_of c used) e)
  fix_there h e l numbers = fix_is ∙ storing_there letters c used (fix_question letters used i k bit) (λ t. letter_fixed letters t i k bit) h e l numbers

-- the number at a pattern
module _ (letters : ℕ) (c : Columns) (used e p : ℕ) where
  -- an answered call: its checks and its answer
  pub number_answer : (n : ℕ) → number_call letters c used e p ≡ answered n → OnTable letters c used (number_question letters used e p) × (n ≡ number_at letters (table_of c used) e p)
  unfolding number_call
  number_answer n q =
      let passed : OnTable letters c used (number_question letters used e p) × (answered (number_at letters (table_of c used) e p) ≡ answered n) =
      on_table_answered letters c used (number_question letters used e p) (λ t. answered (number_at letters t e p)) n q in
      (passed.0, sym (same_answer passed.1))

  -- a call that passes its checks is answered
  pub number_next : OnTable letters c used (number_question letters used e p) → number_call letters c used e p ≡ answered (number_at letters (table_of c used) e p)
  unfolding number_call
  number_next h = on_table_next letters c used (number_question letters used e p) (λ t. answered (number_at letters t e p)) h

-- the count of patterns
module _ (letters : ℕ) (c : Columns) (used e : ℕ) where
  -- an answered call: its checks and its answer
  pub count_answer : (n : ℕ) → count_call letters c used e ≡ answered n → OnTable letters c used (count_question letters used e) × (n ≡ count letters (table_of c used) e)
  unfolding count_call
  count_answer n q =
      let passed : OnTable letters c used (count_question letters used e) × (answered (count letters (table_of c used) e) ≡ answered n) =
      on_table_answered letters c used (count_question letters used e) (λ t. answered (count letters t e)) n q in
      (passed.0, sym (same_answer passed.1))

  -- a call that passes its checks is answered
  pub count_next : OnTable letters c used (count_question letters used e) → count_call letters c used e ≡ answered (count letters (table_of c used) e)
  unfolding count_call
  count_next h = on_table_next letters c used (count_question letters used e) (λ t. answered (count letters t e)) h

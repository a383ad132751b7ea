-- Columns that hold a table: finding in them, adding to them, and what callers carry on.
use mathlib.Core.Path.{◌≡◌, refl, sym, ◌∙◌, ap, subst, subst₂}
use mathlib.Core.Logic.{⊎_elim}
use mathlib.Core.List.{List, [], ◌∷◌, ◌++◌}
use mathlib.Core.Bool.{true, false, true≢false}
use Prim.Native.Nat.{ℕ, ◌+◌, ◌/◌, ◌<◌, ◌≤◌}
use native.Mathlib.Omega.{arith}
use lib.ListN.{length, set, take, length-append, length-set}
use lib.Seq.{get_or-take, take-take}
use Rattle.lists.proofs.Cases.{lt_or_ge, true_false}
use Rattle.diagram.specs.Table.{Entry, Table, blank, branch, entry_at}
use Rattle.diagram.specs.Sound.{distinct}
use Rattle.diagram.specs.Store.{Stored, stored, find, add}
use Rattle.diagram.specs.Held.{entries, held}
use Rattle.diagram.proofs.Sound.{distinct_apart, apart_distinct}
use Rattle.diagram.specs.Extends.{Extends}
use Rattle.diagram.proofs.Add.{extends_refl, extends_append, extends_take, find_is, find_missing, find_cases, add_found, add_missing, Added, added}
use Rattle.diagram.proofs.Held.{held_length, held_is, held_next}
use Rattle.table.specs.declared.Put.{Put}
use Rattle.table.specs.declared.Stop.{Stop}
use Rattle.table.specs.declared.Stop.TheVariants.{Going, Full}
use Rattle.table.specs.Stop.{stopped}
use Rattle.table.specs.Index.{bucket, linked}
use Rattle.table.specs.Holds.{Holds, Kept, Outcome, Sought}
use Rattle.table.proofs.Stops.{stop_over, stop_fits, stop_more, going_fits, full_over}
use Rattle.table.proofs.Entering.{ready_write}

abbrev pub put : Stop → ℕ → ℕ → Put
put s e u = record { stop = s; entry = e; used = u }

-- among rows that differ, what a search finds is the first place
pub sought_find : (l w h : List ℕ) (used : ℕ) (x : Entry) (r : ℕ) → length w ≡ length l → length h ≡ length l → used ≤ length l
    → distinct (held l w h used) ≡ true → Sought (entries l w h) used x r → r ≡ find x (held l w h used)
sought_find l w h used x r p q fits apart s =
    let t : Table = held l w h used in
    let rows : Table = entries l w h in
    let long : length t ≡ used = held_length l w h p q used fits in
    ⊎_elim
    (λ (k : r < used).
    sym (find_is x t r (omega arith) (get_or-take used rows r blank k ∙ s.there k) (λ j g e.
    let z : r ≡ j = distinct_apart t apart r j (omega arith) (omega arith) (get_or-take used rows r blank k ∙ s.there k ∙ sym e) in omega arith)))
    (λ (k : used ≤ r).
    let z : r ≡ used = omega (arith, s.within) in
    z ∙ sym long ∙ sym (find_missing x t (λ i g e. let k' : i < used = omega arith in s.missing z i k' (sym (get_or-take used rows i blank k') ∙ e))))
    (lt_or_ge r used)

module _ {l w h ix : List ℕ} {t : Table} {used : ℕ} (s : Holds l w h ix t used) where
  pub holds_fits : length t ≤ length l
  holds_fits = omega (arith, s.ready.fits, s.long)

  -- the columns hold the table
  pub holds_table : held l w h used ≡ t
  holds_table = ap (held l w h) s.long ∙ held_is s.is holds_fits

  -- and each table that it extends
  pub holds_kept : {u : Table} → Extends u t → Kept l w h (length l) u
  holds_kept {u} e = record {
    letter_long = refl;
    low_long = s.ready.sized.low_long;
    high_long = s.ready.sized.high_long;
    fits = omega (arith, e.longer, holds_fits);
    table =
        sym (take-take (length u) used (entries l w h) (omega (arith, e.longer, s.long)))
        ∙ ap (take (length u)) holds_table
        ∙ extends_take u t e;
  }

  -- what a call asks of the table in the columns
  pub holds_again : Holds l w h ix (held l w h used) used
  holds_again = rw holds_table s

  -- an entry that is there needs no storing
  pub outcome_there : (e : ℕ) → Outcome t (stored t e) l w h ix (put Going e used)
  outcome_there e = record {
    stop = going_fits (length l) (length t) holds_fits;
    entry = λ _. refl;
    holds = λ _. s;
    crowded = λ z. absurd (true≢false (sym z));
    kept = holds_kept (extends_refl t);
  }

-- entries that still stand, of a table and of one that it extends
pub kept_extends : {l w h : List ℕ} {size : ℕ} {t u : Table} → Extends t u → Kept l w h size u → Kept l w h size t
kept_extends {l} {w} {h} {size} {t} {u} e k = record {
  letter_long = k.letter_long;
  low_long = k.low_long;
  high_long = k.high_long;
  fits = omega (arith, e.longer, k.fits);
  table =
      sym (take-take (length t) (length u) (entries l w h) e.longer)
      ∙ ap (take (length t)) k.table
      ∙ extends_take t u e;
}

module _ {t : Table} {s : Stored} {l w h ix : List ℕ} {r : Put} (o : Outcome t s l w h ix r) where
  pub outcome_over : stopped r.stop ≡ true → length l < length s.table
  outcome_over = stop_over (length l) (length s.table) o.stop

  pub outcome_fits : stopped r.stop ≡ false → length s.table ≤ length l
  outcome_fits = stop_fits (length l) (length s.table) o.stop

  -- a later step's outcome is one of the whole
  pub outcome_extends : {v : Table} → Extends v t → Outcome v s l w h ix r
  outcome_extends e = record { stop = o.stop; entry = o.entry; holds = o.holds; crowded = o.crowded; kept = kept_extends e o.kept }

  -- where a part does not fit, the whole does not
  pub outcome_stops : (v : Stored) → stopped r.stop ≡ true → Extends s.table v.table → Outcome t v l w h ix r
  outcome_stops v e x = record {
    stop = stop_more (length l) (length s.table) o.stop e (length v.table) x.longer;
    entry = λ z. true_false (stopped r.stop) e z;
    holds = λ z. true_false (stopped r.stop) e z;
    crowded = λ z.
        subst (λ (u : Table). Holds l w h ix u (length l))
        (ap (take (length l)) (sym (extends_take s.table v.table x)) ∙ take-take (length l) (length s.table) v.table (omega (arith, outcome_over e)))
        (o.crowded z);
    kept = o.kept;
  }

-- a new entry differs from the others
distinct_append : (t : Table) (x : Entry) → distinct t ≡ true → ((i : ℕ) → i < length t → entry_at t i ≡ x → ⊥) → distinct (t ++ x ∷ []) ≡ true
distinct_append t x d none =
    let u : Table = t ++ x ∷ [] in
    let a : Added x t (stored u (length t)) = subst (Added x t) (add_missing x t none) (added x t) in
    let e : Extends t u = a.extends in
    apart_distinct u (λ i j hi hj q.
    ⊎_elim
    (λ (gi : i < length t).
    ⊎_elim
    (λ (gj : j < length t). distinct_apart t d i j gi gj (sym (e.kept i gi) ∙ q ∙ e.kept j gj))
    (λ (gj : length t ≤ j).
    let z : j ≡ length t = omega (arith, a.longest) in
    absurd (none i gi (sym (e.kept i gi) ∙ q ∙ ap (entry_at u) z ∙ a.holds)))
    (lt_or_ge j (length t)))
    (λ (gi : length t ≤ i).
    let z : i ≡ length t = omega (arith, a.longest) in
    ⊎_elim
    (λ (gj : j < length t). absurd (none j gj (sym (e.kept j gj) ∙ sym q ∙ ap (entry_at u) z ∙ a.holds)))
    (λ (gj : length t ≤ j). omega (arith, a.longest))
    (lt_or_ge j (length t)))
    (lt_or_ge i (length t)))

module _ {l w h ix : List ℕ} {t : Table} {used : ℕ} (s : Holds l w h ix t used) (x : Entry) where
  -- what is there is found
  pub outcome_found : (at : ℕ) → at ≡ find x t → at < used → Outcome t (add x t) l w h ix (put Going at used)
  outcome_found at e there =
      rw (add_found x t (omega (arith, s.long)))
      record {
        stop = going_fits (length l) (length t) (holds_fits s);
        entry = λ _. e;
        holds = λ _. s;
        crowded = λ z. absurd (true≢false (sym z));
        kept = holds_kept s (extends_refl t);
      }

  nowhere : (at : ℕ) → at ≡ find x t → used ≤ at → (i : ℕ) → i < length t → entry_at t i ≡ x → ⊥
  nowhere at e out =
      ⊎_elim
      (λ (g : find x t < length t). absurd (omega (arith, s.long)))
      (λ (none : (i : ℕ) → i < length t → entry_at t i ≡ x → ⊥). none)
      (find_cases x t)

  -- what is not has no room
  pub outcome_full : (at entry : ℕ) → at ≡ find x t → used ≤ at → length l ≤ used → Outcome t (add x t) l w h ix (put Full entry used)
  outcome_full at entry e out full =
      rw (add_missing x t (nowhere at e out))
      record {
        stop = full_over (length l) (length (t ++ x ∷ [])) (simp length-append (omega (arith, s.long)));
        entry = λ z. absurd (true≢false z);
        holds = λ z. absurd (true≢false z);
        crowded = λ _.
            let z : used ≡ length l = omega (arith, s.ready.fits) in
            subst₂ (λ (u : Table) (n : ℕ). Holds l w h ix u n)
            (sym (ap (λ (n : ℕ). take n (t ++ x ∷ [])) (sym z ∙ s.long) ∙ extends_take t (t ++ x ∷ []) (extends_append t (x ∷ [])))) z s;
        kept = holds_kept s (extends_refl t);
      }

-- or is added
module _ {l w h ix : List ℕ} {t : Table} {used : ℕ} (s : Holds l w h ix t used) (k a b : ℕ) where
  abbrev x : Entry
  x = branch k a b

  holds_next : used < length l → ((i : ℕ) → i < length t → entry_at t i ≡ x → ⊥) → (head : ℕ) → head ≡ bucket (length ix / 2) x → head < length ix / 2
      → Holds (set l used k) (set w used a) (set h used b) (linked (length ix / 2) ix head used) (t ++ x ∷ []) (used + 1)
  holds_next room none head own small = record {
    ready = ready_write l w h ix used s.ready k a b room head own small;
    is =
        let size : length (set l used k) ≡ length l = length-set l used k in
        let here : used ≡ length t = s.long in
        rw (size, here)
        (held_next s.is x (omega arith));
    long = simp length-append (omega (arith, s.long));
    apart = distinct_append t x s.apart none;
  }

  pub outcome_new : (at head : ℕ) → at ≡ find x t → used ≤ at → used < length l → head ≡ bucket (length ix / 2) x → head < length ix / 2
      → Outcome t (add x t) (set l used k) (set w used a) (set h used b) (linked (length ix / 2) ix head used) (put Going used (used + 1))
  outcome_new at head e out room own small =
      let none : (i : ℕ) → i < length t → entry_at t i ≡ x → ⊥ = nowhere s x at e out in
      let z : Holds (set l used k) (set w used a) (set h used b) (linked (length ix / 2) ix head used) (t ++ x ∷ []) (used + 1) = holds_next room none head own small in
      rw (add_missing x t none)
      record {
        stop = going_fits (length (set l used k)) (length (t ++ x ∷ [])) (holds_fits z);
        entry = λ _. s.long;
        holds = λ _. z;
        crowded = λ e. absurd (true≢false (sym e));
        kept = holds_kept z (extends_append t (x ∷ []));
      }

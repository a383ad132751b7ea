-- A loop that stores function after function: nothing stored, one more, and no room.
use mathlib.Core.Path.{◌≡◌, refl, sym, ◌∙◌, ap, subst}
use mathlib.Core.List.{List, [], ◌∷◌, ◌++◌, map}
use mathlib.Core.Bool.{true, false}
use Prim.Native.Nat.{ℕ, zero, suc, ◌+◌, ◌-◌, ◌<◌, ◌≤◌}
use native.Mathlib.Omega.{arith}
use lib.ListN.{length, set, replicate, length-map}
use Rattle.lists.specs.Padded.{padded}
use Rattle.lists.proofs.Padded.{padded_none, padded_put}
use Rattle.lists.proofs.Map.{map_append}
use Rattle.lists.proofs.Cases.{true_false}
use Rattle.format.specs.Circuit.{first_node_number}
use Rattle.format.specs.Legal.{most_nodes}
use Rattle.diagram.specs.Pattern.{most_letters, patterns}
use Rattle.diagram.specs.Table.{Table, number_at}
use Rattle.diagram.specs.Store.{Stored, store}
use Rattle.diagram.specs.Held.{held}
use Rattle.diagram.proofs.Sound.{Sound}
use Rattle.diagram.specs.Extends.{Extends}
use Rattle.diagram.proofs.Add.{extends_refl}
use Rattle.diagram.proofs.Number.{number_at_extends}
use Rattle.diagram.proofs.Store.{store_stored, store_ext}
use Rattle.table.specs.declared.Put.{Put}
use Rattle.table.specs.declared.Stop.TheVariants.{Going}
use Rattle.table.specs.Stop.{stopped}
use Rattle.table.specs.Holds.{Holds, Outcome}
use Rattle.table.proofs.Stops.{stop_more, going_fits}
use Rattle.table.proofs.Outcomes.{holds_fits, holds_table, holds_kept, kept_extends, outcome_fits}
use Rattle.functions.specs.Open.{Open}
use Rattle.functions.proofs.Carry.{legible_sound, legible_long, open_next}
use Rattle.rules.specs.State.{up_from}
use Rattle.rules.specs.Run.{StoredAll, store_all}
use Rattle.rules.proofs.State.{up_length}
use Rattle.rules.proofs.StoreAll.{AreStored, and_then, all_stored, store_none, store_next, store_all_longer}
use Rattle.values.specs.All.{OutcomeAll}
use Rattle.values.specs.First.{first_stored}

-- what is stored after the rest
abbrev pub after : StoredAll → StoredAll → StoredAll
after a b = record { table = b.table; entries = a.entries ++ b.entries }

-- functions, and functions after them
pub store_all_append : (k : ℕ) (fs gs : List (ℕ → ℕ)) (t : Table) → store_all k (fs ++ gs) t ≡ after (store_all k fs t) (store_all k gs (store_all k fs t).table)
store_all_append k [] gs t = rw (store_none k t) refl
store_all_append k (f ∷ fs) gs t =
    store_next k f (fs ++ gs) t
    ∙ ap (and_then (store k 0 f t)) (store_all_append k fs gs (store k 0 f t).table)
    ∙ ap (λ (s : StoredAll). after s (store_all k gs s.table)) (sym (store_next k f fs t))

-- one function after the others
abbrev pub and_last : StoredAll → Stored → StoredAll
and_last a s = record { table = s.table; entries = a.entries ++ s.entry ∷ [] }

pub store_all_last : (k : ℕ) (fs : List (ℕ → ℕ)) (f : ℕ → ℕ) (t : Table) → store_all k (fs ++ f ∷ []) t ≡ and_last (store_all k fs t) (store k 0 f (store_all k fs t).table)
store_all_last k fs f t =
    store_all_append k fs (f ∷ []) t
    ∙ ap (after (store_all k fs t)) (store_next k f [] (store_all k fs t).table ∙ ap (and_then (store k 0 f (store_all k fs t).table)) (store_none k (store k 0 f (store_all k fs t).table).table))

-- i numbers, and j after them
pub up_append : (i j m : ℕ) → up_from (i + j) m ≡ up_from i m ++ up_from j (m + i)
unfolding up_from
up_append zero j m =
    let a : zero + j ≡ j = omega arith in
    let b : m + zero ≡ m = omega arith in
    rw (a, b) refl
up_append (suc i) j m =
    let a : suc i + j ≡ suc (i + j) = omega arith in
    let b : m + suc i ≡ suc m + i = omega arith in
    rw (a, b) (ap {B = List ℕ} (λ r. m ∷ r) (up_append i j (suc m)))

-- a first number
pub up_first : (n m : ℕ) → up_from (suc n) m ≡ m ∷ up_from n (suc m)
unfolding up_from
up_first n m = refl

pub up_last : (i m : ℕ) → up_from (i + 1) m ≡ up_from i m ++ (m + i) ∷ []
unfolding up_from
up_last i m = up_append i 1 m

-- nothing stored yet
pub series_none : (k : ℕ) {l w h ix : List ℕ} {t : Table} {used : ℕ} → Holds l w h ix t used → OutcomeAll t (store_all k [] t) l w h ix Going used (replicate most_nodes 0)
series_none k {l} {w} {h} {ix} {t} {used} g =
    rw (store_none k t) record {
      stop_is = going_fits (length l) (length t) (holds_fits g);
      entries_are = λ _. sym (padded_none most_nodes 0);
      holds = λ _. g;
      kept = holds_kept g (extends_refl t);
    }

module _ {k : ℕ} {t : Table} (few : k ≤ most_letters) (sound : Sound k t) (fs : List (ℕ → ℕ)) (f : ℕ → ℕ) where
  abbrev u : Table
  u = (store_all k fs t).table

  -- one more
  pub series_next : {l w h ix l1 w1 h1 ix1 : List ℕ} {used : ℕ} {entries : List ℕ} {r : Put}
      → OutcomeAll t (store_all k fs t) l w h ix Going used entries
      → Outcome (store_all k fs t).table (store k 0 f (store_all k fs t).table) l1 w1 h1 ix1 r → stopped r.stop ≡ false → length fs < most_nodes
      → OutcomeAll t (store_all k (fs ++ f ∷ []) t) l1 w1 h1 ix1 Going r.used (set entries (length fs) r.entry)
  series_next {l1 = l1} {entries = entries} {r = r} a b room few-functions =
      let all : AreStored k fs t (store_all k fs t) = all_stored fs t few sound in
      rw (store_all_last k fs f t) record {
        stop_is = going_fits (length l1) (length (store k 0 f u).table) (outcome_fits b room);
        entries_are = λ _.
            ap (λ (es : List ℕ). set es (length fs) r.entry) (a.entries_are refl)
            ∙ padded_put most_nodes (length fs) 0 r.entry (store_all k fs t).entries all.count few-functions
            ∙ ap (λ (e : ℕ). padded most_nodes 0 ((store_all k fs t).entries ++ e ∷ [])) (b.entry room);
        holds = λ _. b.holds room;
        kept = kept_extends all.extends b.kept;
      }

  -- no room, whatever comes after
  pub series_stop : {l1 w1 h1 ix1 : List ℕ} {r : Put} → Outcome (store_all k fs t).table (store k 0 f (store_all k fs t).table) l1 w1 h1 ix1 r → stopped r.stop ≡ true
      → (rest : List (ℕ → ℕ)) (used : ℕ) (entries : List ℕ) → OutcomeAll t (store_all k (fs ++ f ∷ rest) t) l1 w1 h1 ix1 r.stop used entries
  series_stop {l1 = l1} {r = r} b full rest used entries =
      let all : AreStored k fs t (store_all k fs t) = all_stored fs t few sound in
      let one : AreStored k (f ∷ []) u (store_all k (f ∷ []) u) = all_stored (f ∷ []) u few all.sound in
      let s : Stored = store k 0 f u in
      let grown : Sound k s.table = (store_stored k 0 f u few all.sound (omega arith)).sound in
      let more : length s.table ≤ length (store_all k rest s.table).table = store_all_longer rest s.table few grown in
      let is : (store_all k (fs ++ f ∷ rest) t).table ≡ (store_all k rest s.table).table =
      ap (λ (v : StoredAll). v.table) (store_all_append k fs (f ∷ rest) t) ∙ ap (λ (v : StoredAll). v.table) (store_next k f rest u) in
      record {
        stop_is = stop_more (length l1) (length s.table) b.stop full (length (store_all k (fs ++ f ∷ rest) t).table) (rw is more);
        entries_are = λ z. true_false (stopped r.stop) full z;
        holds = λ z. true_false (stopped r.stop) full z;
        kept = kept_extends all.extends b.kept;
      }

-- The node records in turn: `g n` is stored for node n.
module _ {k : ℕ} {l w h ix : List ℕ} {used : ℕ} (o : Open k l w h ix used) (g : ℕ → ℕ → ℕ) where
  abbrev first : Table
  first = held l w h used

  sound_first : Sound k first
  sound_first = legible_sound o.legible

  -- before the first node record
  pub nodes_none : OutcomeAll (held l w h used) (first_stored k g 0 (held l w h used)) l w h ix Going used (replicate most_nodes 0)
  unfolding up_from
  nodes_none = series_none k o.holds

  module _ (i : ℕ) {l1 w1 h1 ix1 : List ℕ} {used1 : ℕ} {entries : List ℕ} (a : OutcomeAll (held l w h used) (first_stored k g i (held l w h used)) l1 w1 h1 ix1 Going used1 entries) where
    all_first : AreStored k (map g (up_from i first_node_number)) first (first_stored k g i first)
    all_first = all_stored (map g (up_from i first_node_number)) first o.legible.few sound_first

    -- the columns are open
    pub nodes_open : Open k l1 w1 h1 ix1 used1
    nodes_open = open_next o.legible.few all_first.sound (a.holds refl)

    -- and hold the table as it was at first, and more
    pub nodes_extends : Extends (held l w h used) (held l1 w1 h1 used1)
    nodes_extends = rw (holds_table (a.holds refl)) all_first.extends

    -- so that its entries keep their numbers
    pub nodes_number : (e p : ℕ) → e < used → number_at k (held l1 w1 h1 used1) e p ≡ number_at k (held l w h used) e p
    nodes_number e p small =
        let long : length first ≡ used = legible_long o.legible in
        number_at_extends e p o.legible.few sound_first nodes_extends (omega arith)

    pub nodes_longer : used ≤ used1
    nodes_longer =
        let long : length first ≡ used = legible_long o.legible in
        omega (arith, all_first.extends.longer, (a.holds refl).long)

    count_first : length (map g (up_from i first_node_number)) ≡ i
    count_first = length-map (up_from i first_node_number) g ∙ up_length i first_node_number

    module _ (f : ℕ → ℕ) {l2 w2 h2 ix2 : List ℕ} {r : Put} (b : Outcome (held l1 w1 h1 used1) (store k 0 f (held l1 w1 h1 used1)) l2 w2 h2 ix2 r)
        (same : (p : ℕ) → p < patterns k → f p ≡ g (first_node_number + i) p) where
      own : Outcome (first_stored k g i first).table (store k 0 (g (first_node_number + i)) (first_stored k g i first).table) l2 w2 h2 ix2 r
      own =
          subst (λ (v : Table). Outcome v (store k 0 (g (first_node_number + i)) v) l2 w2 h2 ix2 r) (holds_table (a.holds refl))
          (subst (λ (s : Stored). Outcome (held l1 w1 h1 used1) s l2 w2 h2 ix2 r) (store_ext k 0 f (g (first_node_number + i)) (held l1 w1 h1 used1) same) b)

      -- node record i
      pub nodes_next : stopped r.stop ≡ false → i < most_nodes
          → OutcomeAll (held l w h used) (first_stored k g (i + 1) (held l w h used)) l2 w2 h2 ix2 Going r.used (set entries i r.entry)
      nodes_next room small =
          let z : OutcomeAll first (store_all k (map g (up_from i first_node_number) ++ g (first_node_number + i) ∷ []) first) l2 w2 h2 ix2 Going r.used (set entries i r.entry) =
          subst (λ (j : ℕ). OutcomeAll first (store_all k (map g (up_from i first_node_number) ++ g (first_node_number + i) ∷ []) first) l2 w2 h2 ix2 Going r.used (set entries j r.entry)) count_first
          (series_next o.legible.few sound_first (map g (up_from i first_node_number)) (g (first_node_number + i)) a own room (rw count_first small)) in
          rw (up_last i first_node_number, map_append g (up_from i first_node_number) ((first_node_number + i) ∷ [])) z

      -- no room for it, so none for n node records
      pub nodes_stop : stopped r.stop ≡ true → (n : ℕ) → i < n → (most : ℕ) (written : List ℕ)
          → OutcomeAll (held l w h used) (first_stored k g n (held l w h used)) l2 w2 h2 ix2 r.stop most written
      nodes_stop full n small most written =
          let split : n ≡ i + suc (n - i - 1) = omega arith in
          let e : map g (up_from n first_node_number) ≡ map g (up_from i first_node_number) ++ g (first_node_number + i) ∷ map g (up_from (n - i - 1) (suc (first_node_number + i))) =
          ap (λ (m : ℕ). map g (up_from m first_node_number)) split ∙ ap (map g) (up_append i (suc (n - i - 1)) first_node_number)
          ∙ map_append g (up_from i first_node_number) (up_from (suc (n - i - 1)) (first_node_number + i))
          ∙ ap (λ (ns : List ℕ). map g (up_from i first_node_number) ++ map g ns) (up_first (n - i - 1) (first_node_number + i)) in
          rw e
          (series_stop o.legible.few sound_first (map g (up_from i first_node_number)) (g (first_node_number + i)) own full (map g (up_from (n - i - 1) (suc (first_node_number + i)))) most written)

-- the loop over n node records, before record i: the columns keep their lengths
pub record Storing (n k : ℕ) (g : ℕ → ℕ → ℕ) (l₀ w₀ h₀ ix₀ : List ℕ) (used₀ : ℕ) (l w h ix : List ℕ) (used : ℕ) (entries : List ℕ) (i : ℕ) : Type 0 where
  pub within : i ≤ n
  pub letter_long : length l ≡ length l₀
  pub low_long : length w ≡ length w₀
  pub high_long : length h ≡ length h₀
  pub index_long : length ix ≡ length ix₀
  pub first_open : Open k l₀ w₀ h₀ ix₀ used₀
  pub outcome : OutcomeAll (held l₀ w₀ h₀ used₀) (first_stored k g i (held l₀ w₀ h₀ used₀)) l w h ix Going used entries

pub storing_first : (n : ℕ) {k : ℕ} (g : ℕ → ℕ → ℕ) {l w h ix : List ℕ} {used : ℕ} → Open k l w h ix used → Storing n k g l w h ix used l w h ix used (replicate most_nodes 0) 0
storing_first n g o = record {
  within = omega arith;
  letter_long = refl;
  low_long = refl;
  high_long = refl;
  index_long = refl;
  first_open = o;
  outcome = nodes_none o g;
}

module _ {n k : ℕ} {g : ℕ → ℕ → ℕ} {l₀ w₀ h₀ ix₀ : List ℕ} {used₀ : ℕ} {l w h ix : List ℕ} {used : ℕ} {entries : List ℕ} {i : ℕ} (s : Storing n k g l₀ w₀ h₀ ix₀ used₀ l w h ix used entries i) where
  -- the columns are open, and entries of the first table have their numbers
  pub storing_open : Open k l w h ix used
  storing_open = nodes_open s.first_open g i s.outcome

  pub storing_number : (e p : ℕ) → e < used₀ → number_at k (held l w h used) e p ≡ number_at k (held l₀ w₀ h₀ used₀) e p
  storing_number = nodes_number s.first_open g i s.outcome

  pub storing_longer : used₀ ≤ used
  storing_longer = nodes_longer s.first_open g i s.outcome

  -- record i is stored
  pub storing_next : (f : ℕ → ℕ) {l1 w1 h1 ix1 : List ℕ} {r : Put} → Outcome (held l w h used) (store k 0 f (held l w h used)) l1 w1 h1 ix1 r
      → ((p : ℕ) → p < patterns k → f p ≡ g (first_node_number + i) p) → stopped r.stop ≡ false → i < n → n ≤ most_nodes
      → length l1 ≡ length l → length w1 ≡ length w → length h1 ≡ length h → length ix1 ≡ length ix
      → Storing n k g l₀ w₀ h₀ ix₀ used₀ l1 w1 h1 ix1 r.used (set entries i r.entry) (i + 1)
  storing_next f b same room small few el ew eh eix = record {
    within = omega arith;
    letter_long = el ∙ s.letter_long;
    low_long = ew ∙ s.low_long;
    high_long = eh ∙ s.high_long;
    index_long = eix ∙ s.index_long;
    first_open = s.first_open;
    outcome = nodes_next s.first_open g i s.outcome f b same room (omega arith);
  }

  -- there is no room for it
  pub storing_stop : (f : ℕ → ℕ) {l1 w1 h1 ix1 : List ℕ} {r : Put} → Outcome (held l w h used) (store k 0 f (held l w h used)) l1 w1 h1 ix1 r
      → ((p : ℕ) → p < patterns k → f p ≡ g (first_node_number + i) p) → stopped r.stop ≡ true → i < n → (most : ℕ) (written : List ℕ)
      → OutcomeAll (held l₀ w₀ h₀ used₀) (first_stored k g n (held l₀ w₀ h₀ used₀)) l1 w1 h1 ix1 r.stop most written
  storing_stop f b same full small most written = nodes_stop s.first_open g i s.outcome f b same full n small most written

  -- all records are stored
  pub storing_done : n ≤ i → OutcomeAll (held l₀ w₀ h₀ used₀) (first_stored k g n (held l₀ w₀ h₀ used₀)) l w h ix Going used entries
  storing_done out =
      let e : n ≡ i = omega (arith, s.within) in
      rw e s.outcome

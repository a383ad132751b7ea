-- The arms that the cell lists for a node add what the kept channels add.
use mathlib.Core.Path.{◌≡◌, refl, sym, ◌∙◌, ap}
use mathlib.Core.Logic.{⊎_elim}
use mathlib.Core.Bool.{Bool, true, false, cond}
use mathlib.Core.Option.{Option}
use mathlib.Core.List.Memᴰ
use mathlib.Core.List.{List, [], ◌∷◌, Memᴰ}
use Prim.Native.Nat.{ℕ, suc, ◌+◌, ◌≤◌, ◌<◌}
use native.Mathlib.Omega.{arith}
use lib.ListN.{length, get_or}
use Rattle.units.specs.Rules.{ceiling}
use Rattle.units.specs.Range.{AtMost}
use Rattle.units.proofs.Laws.{at_most_weaken}
use Rattle.format.specs.declared.Transistor.{Transistor}
use Rattle.format.specs.Circuit.{no_transistor}
use Rattle.format.specs.Legal.{most_nodes, most_resistance}
use Rattle.rules.specs.Kept.{Channel}
use Rattle.rules.specs.Sum.{leads, over_arms}
use Rattle.rules.proofs.Range.{Resistive, Weak, load_at_most}
use Rattle.net.specs.Net.{nodes_place, transistors_place, at, net_transistor, net_circuit, net_arms}
use Rattle.net.proofs.Laying.{transistors_length, transistor_at_lem}
use Rattle.plain.specs.Leaf.{kept_by, is_kept, leaf_channels, leaf_state, net_channel, leaf_load}
use Rattle.plain.specs.Ready.{Net}
use Rattle.plain.proofs.Fold.{fold_arms, goes_on, over_fold}

-- what holds of each transistor holds of the kept ones
kept_all : (P : Transistor → Type 0) (flag : ℕ → Bool) (i : ℕ) (ts : List Transistor) → ((j : ℕ) → j < length ts → P (get_or ts j no_transistor)) → (k : Channel) → Memᴰ k (kept_by flag i ts) → P k.transistor
unfolding kept_by
kept_all P flag i [] h k m = absurd (Memᴰ.not-nil m)
kept_all P flag i (t ∷ ts) h k m = by (flag i) m (kept_all P flag (suc i) ts (λ j l. h (suc j) (omega arith)) k)
  where
    here : k ≡ record { number = i; transistor = t } → P k.transistor
    here e = rw e (h 0 (omega arith))

    by : (b : Bool) → Memᴰ k (cond b (record { number = i; transistor = t } ∷ kept_by flag (suc i) ts) (kept_by flag (suc i) ts)) → (Memᴰ k (kept_by flag (suc i) ts) → P k.transistor) → P k.transistor
    by true at below = ⊎_elim here below (Memᴰ.cases_cons at)
    by false at below = below at

-- flags that agree keep the same transistors
pub by_ext : (f g : ℕ → Bool) (i : ℕ) (ts : List Transistor) → ((j : ℕ) → i ≤ j → j < i + length ts → f j ≡ g j) → kept_by f i ts ≡ kept_by g i ts
unfolding kept_by
by_ext f g i [] h = refl
by_ext f g i (t ∷ ts) h = rw (h i (omega arith) (omega arith), by_ext f g (suc i) ts (λ j l m. h j (omega arith) (omega arith)))

module _ (net : List ℕ) (h : Net net) where
  -- no kept transistor is without resistance
  pub leaf_resistive : (leaf : List ℕ) → Resistive (leaf_channels (net_circuit net) leaf)
  leaf_resistive leaf =
      kept_all (λ (t : Transistor). 1 ≤ t.resistance.0) (is_kept leaf) 0 (net_circuit net).transistors
      (λ j l.
      let g : j < at net transistors_place = omega (arith, transistors_length net) in
      rw (transistor_at_lem net j g) (h.within.transistor j g).least)

  -- and none has more ohms than a transistor may have
  pub leaf_weak : (leaf : List ℕ) → Weak most_resistance (leaf_channels (net_circuit net) leaf)
  leaf_weak leaf =
      kept_all (λ (t : Transistor). t.resistance.0 ≤ most_resistance) (is_kept leaf) 0 (net_circuit net).transistors
      (λ j l.
      let g : j < at net transistors_place = omega (arith, transistors_length net) in
      rw (transistor_at_lem net j g) (h.within.transistor j g).most)

  -- so a delay walk stays below the ceiling
  pub leaf_load_most : (leaf : List ℕ) (a : ℕ) (sharing : Bool) (new : ℕ) (from : Option ℕ) (n : ℕ) → a ≤ most_nodes → AtMost ceiling (leaf_load net leaf a sharing new from n).resistance
  leaf_load_most leaf a sharing new from n few =
      at_most_weaken (leaf_load net leaf a sharing new from n).resistance (omega arith)
      (load_at_most (net_circuit net) (leaf_state (net_circuit net) 0 leaf) (leaf_channels (net_circuit net) leaf) most_resistance (leaf_weak leaf) sharing new a from n)

  module _ (n : ℕ) (l : n < 2 + at net nodes_place) where
    -- over the kept channels that lead away, and over the listed numbers
    pub arms_fold : {A : Type 0} (leaf : List ℕ) (from : Option ℕ) (add : A → Channel → A) (v : A)
        → over_arms (leads from n) add v (leaf_channels (net_circuit net) leaf) ≡ fold_arms (goes_on (is_kept leaf) from) (λ (w : A) (i : ℕ). add w (net_channel net i)) v (net_arms net n)
    arms_fold {A} leaf from add v =
        over_fold (is_kept leaf) from n add (λ (w : A) (i : ℕ). add w (net_channel net i)) 0 (net_circuit net).transistors
        (λ j g w.
        let same : j ≡ 0 + j = omega arith in
        ap (λ (t : Transistor). add w (record { number = 0 + j; transistor = t })) (transistor_at_lem net j (omega (arith, transistors_length net)) ∙ ap (net_transistor net) same))
        v
        ∙ ap (λ (is : List ℕ). fold_arms (goes_on (is_kept leaf) from) (λ (w : A) (i : ℕ). add w (net_channel net i)) v is) (sym (h.arms n l))

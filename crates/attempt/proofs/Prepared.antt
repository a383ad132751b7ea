-- The roots of a prepared step, for one node: a descent may take them, and what they settle at a pattern is the node's next change there.
use mathlib.Core.Path.{◌≡◌, refl, sym, ◌∙◌, ap, subst}
use mathlib.Core.Logic.{⊎_elim}
use mathlib.Core.List.{List}
use mathlib.Core.Bool.{Bool, true, false, not, ◌&&◌, ◌||◌, cond}
use Prim.Native.Nat.{ℕ, zero, suc, ◌+◌, ◌<◌, ◌≤◌}
use native.Mathlib.Omega.{arith}
use lib.ListN.{length, get_or, drop, length-map, length-take, length-drop, length-replicate}
use lib.Seq.{get_or-drop}
use lib.Dec.{eqb}
use borrow.Author.Tests.{eqb-true}
use Rattle.lists.proofs.Cases.{lt_or_ge, and_left, and_right}
use Rattle.format.specs.declared.Transistor.{Transistor}
use Rattle.format.specs.Circuit.{Circuit}
use Rattle.lists.proofs.Map.{map_at}
use Rattle.format.proofs.Legal.{LegalCell}
use Rattle.diagram.specs.Pattern.{most_letters, patterns}
use Rattle.diagram.specs.Table.{Table, number_at}
use Rattle.diagram.specs.Store.{store}
use Rattle.diagram.specs.Held.{held}
use Rattle.diagram.proofs.Sound.{Sound}
use Rattle.diagram.proofs.Number.{number_zeroth, number_first}
use Rattle.diagram.proofs.Store.{store_ext}
use Rattle.working.specs.Grown.{bit}
use Rattle.rules.specs.State.{State, value_at, is_inner}
use Rattle.rules.specs.Label.{label_at, joined}
use Rattle.rules.specs.Group.{groups, in_group, is_seed}
use Rattle.rules.specs.Reach.{reconsidered}
use Rattle.rules.specs.Kept.{kept}
use Rattle.rules.proofs.State.{Numbered, Shaped}
use Rattle.rules.proofs.Label.{joined_alike}
use Rattle.rules.specs.Matrix as matrix
use Rattle.net.specs.Net.{at, net_circuit, net_group}
use Rattle.net.proofs.Laying.{nodes_length, transistors_length}
use Rattle.net.specs.Roots.{seeds_place, pending_place, roots_length, change_place}
use Rattle.plain.specs.Exceeded.{change_or_exceeded}
use Rattle.plain.specs.Leaf.{leaf_state}
use Rattle.prepare.specs.Steps.{Shows, Bits, considered}
use Rattle.prepare.specs.Roots.{Roots}
use Rattle.prepare.proofs.Reading.{laid_legal, laid_label}
use Rattle.descent.specs.Settle.{leaf_at, is_seeded, settled_by, Calm, is_of}
use Rattle.descent.specs.Descend.{Inner, Rooted}
use Rattle.descent.proofs.Channels.{leaf_value, leaf_change_lem}
use Rattle.descent.proofs.Calm.{leaf_calm}
use Rattle.descent.proofs.Going.{rooted_all}
use Rattle.descent.proofs.Settled.{RightKept, Right, settled}
use Rattle.attempt.specs.Change.{pending_in, before_state, after_state, change_from, change_by}
use Rattle.attempt.specs.Places.{RootsFor, EntriesOf}

-- the two tests whether transistor i is kept are one
kept_test : (c : Circuit) (s : State) (i : ℕ) → matrix.is_kept c s i ≡ is_of (kept c s) i
unfolding matrix.is_kept
kept_test c s i = refl

-- a bit is 1 where its test passes
bit_test : (b : Bool) → eqb (bit b) 1 ≡ b
bit_test true = refl
bit_test false = refl

-- the number of an entry at a place, at a pattern
pub leaf_at_lem : (k : ℕ) (t : Table) (entries : List ℕ) (p j : ℕ) → j < length entries → get_or (leaf_at k t entries p) j 0 ≡ number_at k t (get_or entries j 0) p
leaf_at_lem k t entries p j h = map_at (λ (e : ℕ). number_at k t e p) entries 0 0 j h

-- a state with the values of some numbers shows the entries, whose rails are their terminals
shown : (c : Circuit) (q k : ℕ) (t : Table) (values : List ℕ) (nodes p : ℕ) (numbers : List ℕ) → k ≤ most_letters → Sound k t → length c.nodes ≡ nodes → get_or values 0 0 ≡ 0 → get_or values 1 0 ≡ 1
    → ((j : ℕ) → 2 ≤ j → j < 2 + nodes → get_or numbers j 0 ≡ number_at k t (get_or values j 0) p) → Shows k t values nodes p (leaf_state c q numbers)
shown c q k t values nodes p numbers few s size ground supply same j h =
    ⊎_elim
    (λ (r : j < 2). rail j r)
    (λ (l : 2 ≤ j). leaf_value c q numbers j (record { least = l; most = omega arith }) ∙ same j l h)
    (lt_or_ge j 2)
  where
    rail : (j : ℕ) → j < 2 → value_at (leaf_state c q numbers) j ≡ number_at k t (get_or values j 0) p
    rail zero l = sym (ap (λ (e : ℕ). number_at k t e p) ground ∙ number_zeroth t p few s)
    rail (suc zero) l = sym (ap (λ (e : ℕ). number_at k t e p) supply ∙ number_first t p few s)
    rail (suc (suc j)) l = absurd (omega arith)

module _ {net : List ℕ} {k : ℕ} {t : Table} {before after pending : List ℕ} {all : Bool} {only : ℕ} {wl ww wh wix : List ℕ} {wused : ℕ} {roots : List ℕ}
    (few : k ≤ most_letters) (s : Sound k t) (r : Roots net k t before after pending all only wl ww wh wix wused roots)
    (ground : get_or after 0 0 ≡ 0) (supply : get_or after 1 0 ≡ 1) (bits : Bits k t after (2 + at net 0))
    {n : ℕ} (i : Inner net n) {out : List ℕ} (o : RootsFor roots n out) where
  abbrev c : Circuit
  c = net_circuit net

  abbrev w : Table
  w = held wl ww wh wused

  legal : LegalCell c
  legal = laid_legal net i.cell

  size : length c.nodes ≡ at net 0
  size = nodes_length net

  few_nodes : at net 0 ≤ 24
  few_nodes = i.cell.within.nodes

  -- the numbers of the roots at a pattern, by place
  root_leaf : (p j : ℕ) → j < pending_place → get_or (leaf_at k w out p) j 0 ≡ number_at k w (get_or roots j 0) p
  root_leaf p j h = leaf_at_lem k w out p j (omega (arith, o.long)) ∙ ap (λ (e : ℕ). number_at k w e p) (o.first j h)

  root_value : (p j : ℕ) → p < patterns k → j < 2 + at net 0 → get_or (leaf_at k w out p) j 0 ≡ number_at k t (get_or after j 0) p
  root_value p j hp h = root_leaf p j (omega (arith, few_nodes)) ∙ r.value_is j p h hp

  -- at every pattern the charges of the walks are small
  root_calm : (p : ℕ) → p < patterns k → Calm c (leaf_at k w out p)
  root_calm p hp =
      let numbers : List ℕ = leaf_at k w out p in
      let shows : Shows k t after (at net 0) p (leaf_state c 0 numbers) = shown c 0 k t after (at net 0) p numbers few s size ground supply (λ j l h. root_value p j hp h) in
      leaf_calm c legal (leaf_state c 0 numbers) numbers
      (λ j h e.
      sym (kept_test c (leaf_state c 0 numbers) j)
      ∙ r.kept_only j p (leaf_state c 0 numbers) hp shows (omega (arith, transistors_length net))
      (sym (root_leaf p (26 + j) (omega (arith, transistors_length net, i.cell.within.transistors))) ∙ eqb-true (get_or numbers (26 + j) 0) 1 e))
      (length-map out (λ (e : ℕ). number_at k w e p) ∙ o.long)
      (root_value p 0 hp (omega arith) ∙ ap (λ (e : ℕ). number_at k t e p) ground ∙ number_zeroth t p few s)
      (root_value p 1 hp (omega arith) ∙ ap (λ (e : ℕ). number_at k t e p) supply ∙ number_first t p few s)
      (record { bit = λ j h. subst (λ (v : ℕ). v ≤ 1) (sym (shows j (omega (arith, h.most, size)))) (bits j p (omega (arith, h.most, size)) hp) })
      (λ j h. sym (leaf_value c 0 numbers j h))

  root_used : (j : ℕ) → j < roots_length → get_or out j 0 < wused
  root_used j h =
      let few-node : n < 26 = omega (arith, i.node.most, few_nodes) in
      ⊎_elim
      (λ (l : j < pending_place). subst (λ (e : ℕ). e < wused) (sym (o.first j l)) (r.within j (omega arith)))
      (λ (l : pending_place ≤ j). let z : j ≡ pending_place = omega arith in rw z (subst (λ (e : ℕ). e < wused) (sym o.pending) (r.within (pending_place + n) (omega arith))))
      (lt_or_ge j pending_place)

  -- so a descent may take them
  pub prepared_rooted : Rooted net n k wl ww wh wused out k
  prepared_rooted = rooted_all i r.opened.legible o.long root_used (record { calm = λ p hp. root_calm p hp })

  module _ (ground_before : get_or before 0 0 ≡ 0) (supply_before : get_or before 1 0 ≡ 1) (so : considered only (net_group net n) ≡ true) {entries : List ℕ} (g : EntriesOf before after pending n entries) where
    inner : is_inner c n ≡ true
    inner = ap not i.inner

    own : Numbered c n
    own = record { least = i.node.least; most = omega (arith, i.node.most, size) }

    module _ (time p : ℕ) (hp : p < patterns k) where
      abbrev numbers : List ℕ
      numbers = leaf_at k t entries p

      -- the two states of the pattern
      abbrev first : State
      first = before_state c numbers

      abbrev then : State
      then = after_state c time numbers

      entry_at_lem : (j : ℕ) → j < roots_length → get_or numbers j 0 ≡ number_at k t (get_or entries j 0) p
      entry_at_lem j h = leaf_at_lem k t entries p j (omega (arith, g.long))

      before_shown : Shows k t before (at net 0) p first
      before_shown =
          shown c 0 k t before (at net 0) p numbers few s size ground_before supply_before
          (λ j l h. entry_at_lem j (omega (arith, few_nodes)) ∙ ap (λ (e : ℕ). number_at k t e p) (g.before_at j (omega (arith, few_nodes))))

      after_shown : Shows k t after (at net 0) p then
      after_shown =
          shown c (pending_in time numbers) k t after (at net 0) p (drop 26 numbers) few s size ground supply
          (λ j l h. get_or-drop 26 numbers j 0 ∙ entry_at_lem (26 + j) (omega (arith, few_nodes)) ∙ ap (λ (e : ℕ). number_at k t e p) (g.after_at j (omega (arith, few_nodes))))

      -- a node of the group has its label
      module _ (m : ℕ) (near : in_group c n m ≡ true) where
        same_label_lem : label_at (groups c) n ≡ label_at (groups c) m
        same_label_lem = joined_alike (groups c) n m (and_right (is_inner c m) (joined (groups c) n m) near)

        group_inner : is_inner c m ≡ true
        group_inner = and_left (is_inner c m) (joined (groups c) n m) near

        module _ (h : Numbered c m) where
          lt : m < 2 + at net 0
          lt = omega (arith, h.most, size)

          group_so : considered only (net_group net m) ≡ true
          group_so =
              subst (λ (x : ℕ). considered only x ≡ true)
              ((laid_label net i.cell n i.node.most inner).0 ∙ same_label_lem ∙ sym (laid_label net i.cell m lt group_inner).0) so

          seed_number_lem : get_or (leaf_at k w out p) (seeds_place + m) 0 ≡ bit (all || is_seed c first then m)
          seed_number_lem = root_leaf p (seeds_place + m) (omega (arith, lt, few_nodes)) ∙ r.seed_is m p first then lt group_inner group_so hp before_shown after_shown

          -- where it is a seed, the transistors of the group are kept as the rule says
          group_keeps : is_seeded (leaf_at k w out p) m ≡ true → RightKept c then n (leaf_at k w out p)
          group_keeps e j hj of =
              root_leaf p (26 + j) (omega (arith, hj, transistors_length net, i.cell.within.transistors))
              ∙ r.kept_is m j p then lt group_inner group_so hp after_shown
              (sym (root_leaf p (seeds_place + m) (omega (arith, lt, few_nodes))) ∙ eqb-true (get_or (leaf_at k w out p) (seeds_place + m) 0) 1 e)
              (omega (arith, hj, transistors_length net))
              (subst (λ (x : ℕ). (is_inner c (t_at j).first && eqb x (label_at (groups c) (t_at j).first)) || (is_inner c (t_at j).second && eqb x (label_at (groups c) (t_at j).second)) ≡ true) same_label_lem of)
              ∙ ap bit (kept_test c then j)
            where
              t_at : ℕ → Transistor
              t_at x = matrix.transistor_at c x

      right : Right c first then (get_or numbers change_place 0) n all (leaf_at k w out p)
      right = record {
        values = λ j h. root_value p j hp (omega (arith, h.most, size)) ∙ sym (after_shown j (omega (arith, h.most, size)));
        seeds = λ m h near. ap (λ (v : ℕ). eqb v 1) (seed_number_lem m near h) ∙ bit_test (all || is_seed c first then m);
        pends =
            leaf_at_lem k w out p pending_place (omega (arith, o.long))
            ∙ ap (λ (e : ℕ). number_at k w e p) o.pending
            ∙ r.pending_is n p i.node.most hp
            ∙ ap (λ (e : ℕ). number_at k t e p) (sym g.pending_at)
            ∙ sym (entry_at_lem change_place (omega arith));
        keeps = λ m h near e. group_keeps m near h e;
      }

      then_shaped : Shaped c then
      then_shaped =
          let long : length numbers ≡ roots_length = length-map entries (λ (e : ℕ). number_at k t e p) ∙ g.long in
          let one : length (drop 26 numbers) ≡ 91 = simp length-drop (omega arith) in
          let two : length (drop 2 (drop 26 numbers)) ≡ 89 = simp length-drop (omega arith) in
          record { values_long = simp length-take (omega (arith, size, few_nodes)); changes_long = length-replicate (length c.nodes) (pending_in time numbers) }

      -- what the roots settle at a pattern is the next change by the entries
      pub prepared_settles : settled_by (net_circuit net) time n k (held wl ww wh wused) out p ≡ change_by (net_circuit net) time all n k t entries p
      unfolding change_from
      prepared_settles =
          settled c legal n inner own (leaf_at k w out p) time first then (get_or numbers change_place 0) all then_shaped
          (leaf_change_lem c (pending_in time numbers) (drop 26 numbers) n own) right
          ∙ ap (λ (q : ℕ). cond (all || reconsidered c first then n) (change_or_exceeded c time then (kept c then) n) q) (leaf_change_lem c (pending_in time numbers) (drop 26 numbers) n own)

    -- so the same is stored
    pub prepared_store : (time : ℕ) (u : Table) → store k 0 (settled_by (net_circuit net) time n k (held wl ww wh wused) out) u ≡ store k 0 (change_by (net_circuit net) time all n k t entries) u
    prepared_store time u = store_ext k 0 (settled_by c time n k w out) (change_by c time all n k t entries) u (λ p hp. prepared_settles time p hp)

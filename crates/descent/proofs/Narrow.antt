-- Roots that do not matter may be left out: by locality, with the piece for the set.
use mathlib.Core.Path.{◌≡◌, refl, sym, ◌∙◌, ap, subst}
use mathlib.Core.Logic.{◌⊎◌, inl, inr, ⊎_elim}
use mathlib.Core.List.{List, [], ◌∷◌, Memᴰ}
use mathlib.Core.Bool.{Bool, true, false, ◌||◌, cond, or-true}
use mathlib.Core.Option.{none}
use Prim.Native.Nat.{ℕ, zero, suc, ◌+◌, ◌-◌, ◌^◌, ◌<◌, ◌≤◌}
use native.Mathlib.Omega.{arith}
use lib.ListN.{length, get_or, take, length-map, length-take}
use lib.Seq.{get_or-take}
use lib.Dec.{eqb, ltb}
use borrow.Author.Tests.{eq-eqb, ne_eqb, eqb-true, not-true, lt-ltb}
use Rattle.lists.proofs.Cases.{bool_cases, lt_or_ge, eq_or_ne, and_left, and_right, and_both, or_left, or_right, true_false, bool_ext}
use Rattle.format.specs.declared.Transistor.{Transistor}
use Rattle.format.specs.Circuit.{Circuit, no_transistor, node_record}
use Rattle.lists.proofs.Map.{map_at}
use Rattle.diagram.specs.Table.{Entry, Table, number_at}
use Rattle.diagram.proofs.Sound.{Sound, sound_record}
use Rattle.diagram.proofs.Number.{number_terminal, number_first}
use Rattle.rules.specs.State.{value_at, is_driven, is_inner}
use Rattle.rules.specs.Label.{between_inner}
use Rattle.rules.specs.Kept.{Channel}
use Rattle.rules.specs.Sum.{leads, far_end, over_arms, own_sum, node_sum}
use Rattle.rules.specs.Delay.{own_load, is_end, node_load}
use Rattle.rules.proofs.State.{Numbered}
use Rattle.rules.proofs.Walk.{sum_driven, sum_own, sum_arms, load_end, load_own, load_arms, not_end_inner, leads_ends, ends_near}
use Rattle.rules.proofs.Label.{IsNode, Joined, joined_refl, Between, Linked, linked_same, linked_over, linked_more, pieces_only, pieces_join}
use Rattle.rules.proofs.Local.{Shared, Local, sum_local, load_local}
use Rattle.net.specs.Net.{nodes_place, transistors_place, at, net_transistor, net_circuit, arms_of, net_arms}
use Rattle.plain.specs.Exceeded.{change_or_exceeded}
use Rattle.plain.specs.Leaf.{is_kept, leaf_state, leaf_channels, net_channel}
use Rattle.net.specs.Laid.{TransistorWithin}
use Rattle.plain.specs.Ready.{Net}
use Rattle.net.proofs.Laying.{nodes_length, transistors_length, transistor_at_lem}
use Rattle.net.proofs.NodeArms.{arms_has}
use Rattle.net.specs.Roots.{leaf_length, seeds_place, pending_place, roots_length}
use Rattle.plain.proofs.Cell.{inner_least, net_capacitance}
use Rattle.plain.proofs.Exceeding.{or_exceeded_local}
use Rattle.descent.specs.Settle.{leaf_at, is_seeded, is_off, parts, is_reached, pending_of, settled_at, Roots, Calm}
use Rattle.descent.specs.Piece.{is_in, is_near, Beside, Piece, is_touching, matters, sole_seed, Selected, Narrowed}
use Rattle.descent.specs.Descend.{Inner}
use Rattle.descent.proofs.Matters.{matters_rail, matters_node, matters_arm, matters_seed, matters_late}
use Rattle.descent.proofs.Channels.{Flagged, by_flagged, by_only, leaf_value, leaf_change_lem}
use Rattle.descent.proofs.Reaching.{reached_seed, seed_reached, ons_of, on_listed, on_of, ons_legal}

-- x and y are the two ends of a transistor
abbrev Ends : ℕ → ℕ → Transistor → Type 0
Ends x y t = ((t.first ≡ x) × (t.second ≡ y)) ⊎ ((t.first ≡ y) × (t.second ≡ x))

-- where nothing leads away a walk has what the node has itself
arms_none : {A : Type 0} (away : Channel → Bool) (f : A → Channel → A) (o : A) (ks : List Channel) → ((k : Channel) → Memᴰ k ks → away k ≡ false) → over_arms away f o ks ≡ o
unfolding over_arms
arms_none away f o [] h = refl
arms_none away f o (k ∷ ks) h = rw (h k (Memᴰ.head refl)) (arms_none away f o ks (λ j m. h j (Memᴰ.tail m)))

module _ (letters : ℕ) (w : Table) (p : ℕ) where
  -- the number of a root
  pub number_root : (xs : List ℕ) → length xs ≡ roots_length → (j : ℕ) → j < roots_length → get_or (leaf_at letters w xs p) j 0 ≡ number_at letters w (get_or xs j 0) p
  number_root xs long j h = map_at (λ (e : ℕ). number_at letters w e p) xs 0 0 j (omega arith)

  -- entry 0 is 0 everywhere
  pub number_zero : letters ≤ 12 → Sound letters w → number_at letters w 0 p ≡ 0
  number_zero few s = number_terminal letters 0 w 0 p (omega arith) (ap (λ (x : Entry). x.letter) s.zeroth) ∙ ap (λ (x : Entry). x.low) s.zeroth

  pub leaf_length_lem : (xs : List ℕ) → length xs ≡ roots_length → length (leaf_at letters w xs p) ≡ roots_length
  leaf_length_lem xs long = length-map xs (λ (e : ℕ). number_at letters w e p) ∙ long

-- where no seed is reached the pending change stays
pub unsettled : (c : Circuit) (time n : ℕ) (numbers : List ℕ) → is_reached c n numbers ≡ false → settled_at c time n numbers ≡ pending_of time numbers
unfolding settled_at
unsettled c time n numbers e = rw e

module _ {net roots marks : List ℕ} {n : ℕ} (inner : Inner net n) (piece : Piece net roots n marks) where
  abbrev c : Circuit
  c = net_circuit net

  abbrev P : ℕ → Bool
  P = is_in marks

  abbrev M : ℕ
  M = at net transistors_place

  cell : Net net
  cell = inner.cell

  -- what is in the piece is marked
  in_near : (m : ℕ) → is_in marks m ≡ true → is_near marks m ≡ true
  in_near m e = let z : get_or marks m 0 ≡ 1 = eqb-true (get_or marks m 0) 1 e in rw z

  in_numbered : (m : ℕ) → is_in marks m ≡ true → Numbered c m
  in_numbered m e = record { least = inner_least net m (piece.inner m e); most = omega (arith, piece.small m e, nodes_length net) }

  -- a transistor at a node of the piece that is not off leads to what stands beside it
  reaches : (i x : ℕ) → i < M → is_off roots i ≡ false → is_in marks x ≡ true → eqb (net_transistor net i).first x || eqb (net_transistor net i).second x ≡ true
      → Beside c marks (far_end x (net_channel net i))
  reaches i x h on e end =
      let same : get_or c.transistors i no_transistor ≡ net_transistor net i = transistor_at_lem net i h in
      let arm = arms_has x 0 c.transistors i (omega (arith, transistors_length net)) (rw same end) in
      let list : net_arms net x ≡ arms_of c x = cell.arms x (piece.small x e) in
      let is : get_or (net_arms net x) arm.0 0 ≡ i = ap (λ (l : List ℕ). get_or l arm.0 0) list ∙ arm.2 ∙ omega arith in
      let lt : arm.0 < length (net_arms net x) = rw list arm.1 in
      subst (λ (j : ℕ). is_off roots j ≡ false → Beside c marks (far_end x (net_channel net j))) is (piece.closed x e arm.0 lt) on

  -- so both ends of such a transistor that touches the piece do
  both_ends : (i : ℕ) → i < M → is_off roots i ≡ false → is_in marks (net_transistor net i).first || is_in marks (net_transistor net i).second ≡ true
      → Beside c marks (net_transistor net i).first × Beside c marks (net_transistor net i).second
  both_ends i h on e =
      let first : ℕ = (net_transistor net i).first in
      let second : ℕ = (net_transistor net i).second in
      let placed : TransistorWithin (at net nodes_place) (net_transistor net i) = cell.within.transistor i h in
      ⊎_elim
      (λ (a : is_in marks first ≡ true).
      let own : eqb first first ≡ true = eq-eqb first first refl in
      (inl a, rw own at (reaches i first h on a (rw own refl))))
      (λ (a : is_in marks first ≡ false).
      let b : is_in marks second ≡ true = rw a at e in
      let own : eqb second second ≡ true = eq-eqb second second refl in
      let other : eqb first second ≡ false = ne_eqb first second placed.differ in
      (rw other at (reaches i second h on b (rw own (or-true (eqb first second)))), inl b))
      (bool_cases (is_in marks first))

  -- of a channel between inner nodes that is not off, both ends are in the piece or none
  inner_in : (m : ℕ) → is_inner c m ≡ true → Beside c marks m → is_in marks m ≡ true
  inner_in m i = ⊎_elim (λ (a : is_in marks m ≡ true). a) (λ (d : (is_driven c m ≡ true) × (is_near marks m ≡ true)). true_false (is_driven c m) d.0 (not-true (is_driven c m) i))

  both_in : (i : ℕ) → i < M → is_off roots i ≡ false → between_inner c (net_transistor net i) ≡ true → {x y : ℕ} → is_in marks x ≡ true → Ends x y (net_transistor net i)
      → (is_in marks y ≡ true) × (is_in marks (net_transistor net i).first || is_in marks (net_transistor net i).second ≡ true)
  both_in i h on b {x} {y} e ends =
      let first : ℕ = (net_transistor net i).first in
      let second : ℕ = (net_transistor net i).second in
      let here : is_in marks first || is_in marks second ≡ true =
      ⊎_elim
      (λ (q : (first ≡ x) × (second ≡ y)). or_left (is_in marks first) _ (ap (is_in marks) q.0 ∙ e))
      (λ (q : (first ≡ y) × (second ≡ x)). or_right (is_in marks first) _ (ap (is_in marks) q.1 ∙ e))
      ends in
      let two = both_ends i h on here in
      let one : is_in marks first ≡ true = inner_in first (and_left (is_inner c first) _ b) two.0 in
      let other : is_in marks second ≡ true = inner_in second (and_right (is_inner c first) _ b) two.1 in (
        ⊎_elim
            (λ (q : (first ≡ x) × (second ≡ y)). ap (is_in marks) (sym q.1) ∙ other)
            (λ (q : (first ≡ y) × (second ≡ x)). ap (is_in marks) (sym q.0) ∙ one)
            ends,
        here,
      )

  -- so a path over such channels stays in the piece
  path_in : {x y : ℕ} → is_in marks x ≡ true → Linked c (ons_of cell roots) x y → is_in marks y ≡ true
  path_in e (linked_same q) = ap (is_in marks) (sym q) ∙ e
  path_in e (linked_over b r) =
      let f = on_of cell roots b.transistor b.listed in
      path_in (both_in f.0 f.1 f.2 (subst (λ (t : Transistor). between_inner c t ≡ true) f.3 b.inner) e (subst (Ends _ _) f.3 b.ends)).0 r

  -- and the piece is whole
  pub piece_whole : (m : ℕ) → IsNode (length (net_circuit net).nodes) m → Joined (parts (net_circuit net) roots) n m → is_in marks m ≡ true
  piece_whole m h j =
      let own : Numbered c n = in_numbered n piece.own in
      path_in piece.own (pieces_only c (ons_of cell roots) (ons_legal cell roots) n m (record { least = own.least; most = own.most }) h j)

  module _ {out : List ℕ} (sel : Selected net roots marks (sole_seed roots n) out) (letters : ℕ) (w : Table) (r : Roots letters w roots) (p : ℕ) where
    abbrev sole : ℕ
    sole = sole_seed roots n

    abbrev A : List ℕ
    A = leaf_at letters w roots p

    abbrev B : List ℕ
    B = leaf_at letters w out p

    sound : Sound letters w
    sound = sound_record letters w r.sound

    -- a root that matters has its number
    kept_number_lem : (j : ℕ) → j < roots_length → matters net marks sole j ≡ true → get_or B j 0 ≡ get_or A j 0
    kept_number_lem j h e =
        number_root letters w p out sel.long j h
        ∙ ap (λ (x : ℕ). number_at letters w x p) (sel.is j h ∙ rw e)
        ∙ sym (number_root letters w p roots r.long j h)

    -- another has 0
    lost_number : (j : ℕ) → j < roots_length → matters net marks sole j ≡ false → get_or B j 0 ≡ 0
    lost_number j h e =
        number_root letters w p out sel.long j h
        ∙ ap (λ (x : ℕ). number_at letters w x p) (sel.is j h ∙ rw e)
        ∙ number_zero letters w p r.few sound

    -- one that is off has 0 too
    on_number : (i : ℕ) → i < 64 → is_off A i ≡ false → is_off roots i ≡ false
    on_number i h e =
        ⊎_elim
        (λ (o : is_off roots i ≡ true).
        let z : get_or A (26 + i) 0 ≡ 0 =
        number_root letters w p roots r.long (26 + i) (omega arith) ∙ ap (λ (x : ℕ). number_at letters w x p) (eqb-true (get_or roots (26 + i) 0) 0 o) ∙ number_zero letters w p r.few sound in
        true_false (is_off A i) (eq-eqb (get_or A (26 + i) 0) 0 z) e)
        (λ (o : is_off roots i ≡ false). o)
        (bool_cases (is_off roots i))

    off_number : (i : ℕ) → i < 64 → is_kept A i ≡ true → is_off roots i ≡ false
    off_number i h e = on_number i h (ne_eqb (get_or A (26 + i) 0) 0 (λ z. omega (arith, eqb-true (get_or A (26 + i) 0) 1 e)))

    near_matters : (m : ℕ) → Numbered c m → m < 26 → is_near marks m ≡ true → matters net marks sole m ≡ true
    near_matters m h l e = matters_node net marks sole m h.least l ∙ e

    arm_matters : (i : ℕ) → i < 64 → matters net marks sole (26 + i) ≡ is_touching net marks i
    arm_matters i h = let z : 26 + i - 26 ≡ i = omega arith in matters_arm net marks sole (26 + i) (omega arith) (omega arith) ∙ ap (is_touching net marks) z

    few_transistors : (i : ℕ) → i < length c.transistors → (i < M) × (i < 64)
    few_transistors i h = omega (arith, transistors_length net, cell.within.transistors)

    few_nodes : (m : ℕ) → Numbered c m → m < 26
    few_nodes m h = omega (arith, h.most, nodes_length net, cell.within.nodes)

    -- a channel of the numbers: its transistor, not off
    channel : (k : Channel) → Memᴰ k (leaf_channels c A) → (k.number < M) × (k.transistor ≡ net_transistor net k.number) × (is_off roots k.number ≡ false)
    channel k m =
        let f : Flagged (is_kept A) 0 c.transistors k = by_flagged (is_kept A) 0 c.transistors k m in
        let z : k.number - 0 ≡ k.number = omega arith in
        let few = few_transistors k.number (omega (arith, f.most)) in
        (few.0, f.is ∙ ap (λ (i : ℕ). get_or c.transistors i no_transistor) z ∙ transistor_at_lem net k.number few.0, off_number k.number few.1 f.up)

    module _ (q : ℕ) where
      near_value : (m : ℕ) → Numbered c m → is_near marks m ≡ true → value_at (leaf_state c q A) m ≡ value_at (leaf_state c q B) m
      near_value m h e = leaf_value c q A m h ∙ sym (kept_number_lem m (omega (arith, few_nodes m h)) (near_matters m h (few_nodes m h) e)) ∙ sym (leaf_value c q B m h)

      -- what stands beside a node of the piece has the same value
      beside : (m : ℕ) → m < 2 + at net nodes_place → Beside c marks m → Shared c P (leaf_state c q A) (leaf_state c q B) m
      beside m h (inl e) = inl e
      beside m h (inr d) =
          inr (
            d.0,
            ⊎_elim
                (λ (g : m < 2). rw (lt-ltb m 2 g))
                (λ (g : 2 ≤ m). near_value m (record { least = g; most = omega (arith, nodes_length net) }) d.1)
                (lt_or_ge m 2),
          )

      -- the two leaves are the same at the piece
      pub piece_local : Local c P (leaf_state c q A) (leaf_channels c A) (leaf_state c q B) (leaf_channels c B)
      piece_local = record {
        same = by_only P (is_kept A) (is_kept B) 0 c.transistors (λ j _ l e.
            let few = few_transistors j (omega arith) in
            let z : j - 0 ≡ j = omega arith in
            let same : get_or c.transistors (j - 0) no_transistor ≡ net_transistor net j = ap (λ (i : ℕ). get_or c.transistors i no_transistor) z ∙ transistor_at_lem net j few.0 in
            let touch : is_in marks (net_transistor net j).first || is_in marks (net_transistor net j).second ≡ true = rw same at e in
            let counts : matters net marks sole (26 + j) ≡ true = arm_matters j few.1 ∙ and_both (ltb j M) _ (lt-ltb j M few.0) touch in
            ap (λ (v : ℕ). eqb v 1) (sym (kept_number_lem (26 + j) (omega (arith, few.1)) counts)));
        ends = λ k m e.
            let at-k = channel k m in
            let two = both_ends k.number at-k.0 at-k.2 (subst (λ (t : Transistor). is_in marks t.first || is_in marks t.second ≡ true) at-k.1 e) in
            let placed : TransistorWithin (at net nodes_place) (net_transistor net k.number) = cell.within.transistor k.number at-k.0 in
            rw at-k.1 (beside _ placed.first two.0, beside _ placed.second two.1);
        values = λ m e. near_value m (in_numbered m e) (in_near m e);
      }

    -- a transistor that touches the piece is off in both or in neither
    same_off : (i : ℕ) → i < M → is_in marks (net_transistor net i).first || is_in marks (net_transistor net i).second ≡ true → is_off B i ≡ is_off A i
    same_off i h e =
        let small : i < 64 = omega (arith, cell.within.transistors) in
        ap (λ (v : ℕ). eqb v 0) (kept_number_lem (26 + i) (omega arith) (arm_matters i small ∙ and_both (ltb i M) _ (lt-ltb i M h) e))

    -- one that is on in the narrowed numbers is on
    more_on : (i : ℕ) → i < M → is_off B i ≡ false → is_off A i ≡ false
    more_on i h e =
        let small : i < 64 = omega (arith, cell.within.transistors) in
        ⊎_elim
        (λ (q : matters net marks sole (26 + i) ≡ true). ap (λ (v : ℕ). eqb v 0) (sym (kept_number_lem (26 + i) (omega arith) q)) ∙ e)
        (λ (q : matters net marks sole (26 + i) ≡ false). true_false (is_off B i) (eq-eqb (get_or B (26 + i) 0) 0 (lost_number (26 + i) (omega arith) q)) e)
        (bool_cases (matters net marks sole (26 + i)))

    -- a channel from a node of the piece that is on in the numbers leads to a node of the piece, and is on in the narrowed numbers
    stays : {x y : ℕ} → is_in marks x ≡ true → Between c (ons_of cell A) x y → (is_in marks y ≡ true) × Between c (ons_of cell B) x y
    stays {x} {y} e b =
        let f = on_of cell A b.transistor b.listed in
        let two = both_in f.0 f.1 (on_number f.0 (omega (arith, f.1, cell.within.transistors)) f.2) (subst (λ (t : Transistor). between_inner c t ≡ true) f.3 b.inner) e (subst (Ends x y) f.3 b.ends) in (
          two.0,
          record {
            transistor = b.transistor;
            listed = subst (λ (t : Transistor). Memᴰ t (ons_of cell B)) (sym f.3) (on_listed cell B f.0 f.1 (same_off f.0 f.1 two.1 ∙ f.2));
            inner = b.inner;
            ends = b.ends;
          },
        )

    -- so does a path
    path : {x y : ℕ} → is_in marks x ≡ true → Linked c (ons_of cell A) x y → (is_in marks y ≡ true) × Linked c (ons_of cell B) x y
    path e (linked_same q) = (ap (is_in marks) (sym q) ∙ e, linked_same q)
    path e (linked_over b s) = let one = stays e b in let rest = path one.0 s in (rest.0, linked_over one.1 rest.1)

    back : (t : Transistor) → Memᴰ t (ons_of cell B) → Memᴰ t (ons_of cell A)
    back t m = let f = on_of cell B t m in subst (λ (u : Transistor). Memᴰ u (ons_of cell A)) (sym f.3) (on_listed cell A f.0 f.1 (more_on f.0 f.1 f.2))

    own_node : IsNode (length c.nodes) n
    own_node = let i : Numbered c n = in_numbered n piece.own in record { least = i.least; most = i.most }

    seed_place : (m : ℕ) → IsNode (length c.nodes) m → m < 26
    seed_place m h = omega (arith, h.most, nodes_length net, cell.within.nodes)

    -- where n is no seed at every pattern, the seeds that are reached are the same
    same_seeds : sole ≡ 0 → is_reached c n B ≡ is_reached c n A
    same_seeds free = bool_ext (is_reached c n B) (is_reached c n A) there here
      where
        there : is_reached c n B ≡ true → is_reached c n A ≡ true
        there e =
            let s = reached_seed c n B e in
            let few : s.0 < 26 = seed_place s.0 s.1 in
            let seeded : is_seeded A s.0 ≡ true =
            ⊎_elim
            (λ (q : matters net marks sole (seeds_place + s.0) ≡ true). ap (λ (v : ℕ). eqb v 1) (sym (kept_number_lem (seeds_place + s.0) (omega arith) q)) ∙ s.2)
            (λ (q : matters net marks sole (seeds_place + s.0) ≡ false). absurd (omega (arith, eqb-true (get_or B (seeds_place + s.0) 0) 1 s.2, lost_number (seeds_place + s.0) (omega arith) q)))
            (bool_cases (matters net marks sole (seeds_place + s.0))) in
            seed_reached c n A s.0 s.1 seeded
            (pieces_join c (ons_of cell A) (ons_legal cell A) n s.0 (linked_more back (pieces_only c (ons_of cell B) (ons_legal cell B) n s.0 own_node s.1 s.3)))

        here : is_reached c n A ≡ true → is_reached c n B ≡ true
        here e =
            let s = reached_seed c n A e in
            let few : s.0 < 26 = seed_place s.0 s.1 in
            let way = path piece.own (pieces_only c (ons_of cell A) (ons_legal cell A) n s.0 own_node s.1 s.3) in
            let place : seeds_place + s.0 - seeds_place ≡ s.0 = omega arith in
            let counts : matters net marks sole (seeds_place + s.0) ≡ true =
            matters_seed net marks sole (seeds_place + s.0) (omega arith) (omega arith)
            ∙ ap (λ (b : Bool). cond b (is_in marks (seeds_place + s.0 - seeds_place)) (eqb (seeds_place + s.0 - seeds_place) sole)) (eq-eqb sole 0 free)
            ∙ ap (is_in marks) place
            ∙ way.0 in
            seed_reached c n B s.0 s.1 (ap (λ (v : ℕ). eqb v 1) (kept_number_lem (seeds_place + s.0) (omega arith) counts) ∙ s.2)
            (pieces_join c (ons_of cell B) (ons_legal cell B) n s.0 way.1)

    -- where it is, it is reached in both
    sure_reached : get_or roots (seeds_place + n) 0 ≡ 1 → is_reached c n B ≡ is_reached c n A
    sure_reached one =
        let few : n < 26 = seed_place n own_node in
        let is : sole ≡ n = ap (λ (b : Bool). cond b n 0) (eq-eqb (get_or roots (seeds_place + n) 0) 1 one) in
        let up : is_seeded A n ≡ true =
        eq-eqb (get_or A (seeds_place + n) 0) 1 (number_root letters w p roots r.long (seeds_place + n) (omega arith) ∙ ap (λ (x : ℕ). number_at letters w x p) one ∙ number_first w p r.few sound) in
        let place : seeds_place + n - seeds_place ≡ n = omega arith in
        let counts : matters net marks sole (seeds_place + n) ≡ true =
        matters_seed net marks sole (seeds_place + n) (omega arith) (omega arith)
        ∙ rw (place, is, ne_eqb n 0 (λ z. omega (arith, own_node.least)), eq-eqb n n refl) in
        seed_reached c n B n own_node (ap (λ (v : ℕ). eqb v 1) (kept_number_lem (seeds_place + n) (omega arith) counts) ∙ up) (joined_refl (parts c B) n)
        ∙ sym (seed_reached c n A n own_node up (joined_refl (parts c A) n))

    same_reached : is_reached c n B ≡ is_reached c n A
    same_reached =
        ⊎_elim
        sure_reached
        (λ (other : get_or roots (seeds_place + n) 0 ≡ 1 → ⊥). same_seeds (ap (λ (b : Bool). cond b n 0) (ne_eqb (get_or roots (seeds_place + n) 0) 1 other)))
        (eq_or_ne (get_or roots (seeds_place + n) 0) 1)

    same_pending : get_or B pending_place 0 ≡ get_or A pending_place 0
    same_pending = kept_number_lem pending_place (omega arith) (matters_late net marks sole pending_place (omega arith))

    -- so they settle the same
    narrow_settles : (time : ℕ) → settled_at c time n B ≡ settled_at c time n A
    unfolding settled_at
    narrow_settles time =
        let q : ℕ = pending_of time A in
        let own : Numbered c n = in_numbered n piece.own in
        let next : change_or_exceeded c time (leaf_state c q A) (leaf_channels c A) n ≡ change_or_exceeded c time (leaf_state c q B) (leaf_channels c B) n =
        or_exceeded_local (piece_local q) n piece.own time (leaf_change_lem c q A n own ∙ sym (leaf_change_lem c q B n own)) in
        rw (same_reached, same_pending) (ap (λ (v : ℕ). cond (is_reached c n A) v q) (sym next))

    -- a channel of the narrowed numbers is one of the numbers, and touches the piece
    narrow_channel : (k : Channel) → Memᴰ k (leaf_channels c B) → (k.number < M) × (k.transistor ≡ net_transistor net k.number) × (is_off roots k.number ≡ false) × (is_touching net marks k.number ≡ true)
    narrow_channel k m =
        let f : Flagged (is_kept B) 0 c.transistors k = by_flagged (is_kept B) 0 c.transistors k m in
        let z : k.number - 0 ≡ k.number = omega arith in
        let few = few_transistors k.number (omega (arith, f.most)) in
        let one : get_or B (26 + k.number) 0 ≡ 1 = eqb-true (get_or B (26 + k.number) 0) 1 f.up in
        let counts : matters net marks sole (26 + k.number) ≡ true =
        ⊎_elim
        (λ (e : matters net marks sole (26 + k.number) ≡ true). e)
        (λ (e : matters net marks sole (26 + k.number) ≡ false). absurd (omega (arith, lost_number (26 + k.number) (omega (arith, few.1)) e)))
        (bool_cases (matters net marks sole (26 + k.number))) in
        let on : is_kept A k.number ≡ true = ap (λ (v : ℕ). eqb v 1) (sym (kept_number_lem (26 + k.number) (omega (arith, few.1)) counts)) ∙ f.up in (
          few.0,
          f.is ∙ ap (λ (i : ℕ). get_or c.transistors i no_transistor) z ∙ transistor_at_lem net k.number few.0,
          off_number k.number few.1 on,
          sym (arm_matters k.number few.1) ∙ counts,
        )

    -- it leads away from no inner node outside
    narrow_away : (m : ℕ) → is_driven c m ≡ false → is_in marks m ≡ false → (k : Channel) → Memᴰ k (leaf_channels c B) → leads none m k ≡ false
    narrow_away m inside out k at-k =
        ⊎_elim
        (λ (e : leads none m k ≡ true).
        let f = narrow_channel k at-k in
        let two = both_ends k.number f.0 f.2 (and_right (ltb k.number M) _ f.3) in
        let here : Beside c marks m = ends_near (Beside c marks) m (far_end m k) k (leads_ends none m k e).0 (rw f.1 two.0) (rw f.1 two.1) in
        ⊎_elim
        (λ (i : is_in marks m ≡ true). true_false (is_in marks m) i out)
        (λ (d : (is_driven c m ≡ true) × (is_near marks m ≡ true)). true_false (is_driven c m) d.0 inside)
        here)
        (λ (e : leads none m k ≡ false). e)
        (bool_cases (leads none m k))

    module _ (calm : Calm c A) where
      module _ (m : ℕ) (h : m < 2 + length c.nodes) where
        small_own : is_driven c m ≡ false → (node_record c m).capacitance.0 ≤ 65535
        small_own e =
            let l : 2 ≤ m = inner_least net m e in
            rw (net_capacitance net m l (omega (arith, nodes_length net))) (cell.within.node (m - 2) (omega (arith, nodes_length net))).capacitance

        own_sum_lem : (v : ℕ) → is_driven c m ≡ false → (own_sum (node_record c m).capacitance v).high_charge.0 + (own_sum (node_record c m).capacitance v).low_charge.0 < 2 ^ 31
        own_sum_lem v e = by (eqb v 1) (small_own e)
          where
            by : (b : Bool) → (node_record c m).capacitance.0 ≤ 65535 → (cond b (node_record c m).capacitance (record { 0 = 0 })).0 + (cond b (record { 0 = 0 }) (node_record c m).capacitance).0 < 2 ^ 31
            by true l = omega arith
            by false l = omega arith

        own_load_lem : (new v : ℕ) → is_driven c m ≡ false → (own_load new (node_record c m).capacitance v).charge.0 < 2 ^ 31
        own_load_lem new v e = by (eqb v new) (small_own e)
          where
            by : (b : Bool) → (node_record c m).capacitance.0 ≤ 65535 → (cond b (record { 0 = 0 }) (node_record c m).capacitance).0 < 2 ^ 31
            by true l = omega arith
            by false l = omega arith

        alone_sum : (a : ℕ) → is_driven c m ≡ false → is_in marks m ≡ false → node_sum a c (leaf_state c 0 B) (leaf_channels c B) none m ≡ own_sum (node_record c m).capacitance (value_at (leaf_state c 0 B) m)
        alone_sum zero e o = sum_own c (leaf_state c 0 B) (leaf_channels c B) none m e
        alone_sum (suc a) e o = sum_arms c (leaf_state c 0 B) (leaf_channels c B) a none m e ∙ arms_none (leads none m) _ _ (leaf_channels c B) (narrow_away m e o)

        alone_load : (a : ℕ) (sharing : Bool) (new : ℕ) → is_end sharing new c (leaf_state c 0 B) m ≡ false → is_in marks m ≡ false → node_load a sharing new c (leaf_state c 0 B) (leaf_channels c B) none m ≡ own_load new (node_record c m).capacitance (value_at (leaf_state c 0 B) m)
        alone_load zero sharing new e o = load_own c (leaf_state c 0 B) (leaf_channels c B) sharing new none m e
        alone_load (suc a) sharing new e o =
            load_arms c (leaf_state c 0 B) (leaf_channels c B) sharing new a none m e
            ∙ arms_none (leads none m) _ _ (leaf_channels c B) (narrow_away m (not_end_inner sharing new c (leaf_state c 0 B) m e) o)

        sums : (a : ℕ) → (node_sum a c (leaf_state c 0 B) (leaf_channels c B) none m).high_charge.0 + (node_sum a c (leaf_state c 0 B) (leaf_channels c B) none m).low_charge.0 < 2 ^ 31
        sums a =
            ⊎_elim
            (λ (d : is_driven c m ≡ true). rw (sum_driven c (leaf_state c 0 B) (leaf_channels c B) a none m d) (omega arith))
            (λ (d : is_driven c m ≡ false).
            ⊎_elim
            (λ (i : is_in marks m ≡ true). rw (← sum_local (piece_local 0) a none m i) (calm.charges.sums a m h))
            (λ (o : is_in marks m ≡ false). rw (alone_sum a d o) (own_sum_lem (value_at (leaf_state c 0 B) m) d))
            (bool_cases (is_in marks m)))
            (bool_cases (is_driven c m))

        loads : (a : ℕ) (sharing : Bool) (new : ℕ) → (node_load a sharing new c (leaf_state c 0 B) (leaf_channels c B) none m).charge.0 < 2 ^ 31
        loads a sharing new =
            ⊎_elim
            (λ (d : is_end sharing new c (leaf_state c 0 B) m ≡ true). rw (load_end c (leaf_state c 0 B) (leaf_channels c B) sharing new a none m d) (omega arith))
            (λ (d : is_end sharing new c (leaf_state c 0 B) m ≡ false).
            ⊎_elim
            (λ (i : is_in marks m ≡ true). rw (← load_local (piece_local 0) a none m i sharing new) (calm.charges.loads a sharing new m h))
            (λ (o : is_in marks m ≡ false). rw (alone_load a sharing new d o) (own_load_lem new (value_at (leaf_state c 0 B) m) (not_end_inner sharing new c (leaf_state c 0 B) m d)))
            (bool_cases (is_in marks m)))
            (bool_cases (is_end sharing new c (leaf_state c 0 B) m))

      first_of : (xs : List ℕ) (j : ℕ) → j < leaf_length → get_or (take leaf_length xs) j 0 ≡ get_or xs j 0
      first_of xs j h = get_or-take leaf_length xs j 0 h

      -- and stay calm
      narrow_calm : Calm c B
      narrow_calm = record {
        leaf = record {
          long = simp length-take (omega (arith, leaf_length_lem letters w p out sel.long));
          ground = first_of B 0 (omega arith) ∙ kept_number_lem 0 (omega arith) (matters_rail net marks sole 0 (omega arith)) ∙ sym (first_of A 0 (omega arith)) ∙ calm.leaf.ground;
          supply = first_of B 1 (omega arith) ∙ kept_number_lem 1 (omega arith) (matters_rail net marks sole 1 (omega arith)) ∙ sym (first_of A 1 (omega arith)) ∙ calm.leaf.supply;
          bits = λ m h.
              let small : m < 26 = omega (arith, nodes_length net, cell.within.nodes) in
              rw (first_of B m (omega arith))
              (⊎_elim
              (λ (e : matters net marks sole m ≡ true). rw (kept_number_lem m (omega arith) e, ← first_of A m (omega arith)) (calm.leaf.bits m h))
              (λ (e : matters net marks sole m ≡ false). rw (lost_number m (omega arith) e) (omega arith))
              (bool_cases (matters net marks sole m)));
        };
        charges = record { sums = λ a m h. sums m h a; loads = λ a sharing new m h. loads m h a sharing new };
      }

  -- the roots that matter are enough
  enough : {out : List ℕ} → Selected net roots marks (sole_seed roots n) out → Narrowed (net_circuit net) n roots out
  enough {out} sel = record {
    long = sel.long;
    either = λ j h.
        ⊎_elim
        (λ (e : matters net marks (sole_seed roots n) j ≡ true). inl (sel.is j h ∙ rw e))
        (λ (e : matters net marks (sole_seed roots n) j ≡ false). inr (sel.is j h ∙ rw e))
        (bool_cases (matters net marks (sole_seed roots n) j));
    settles = λ letters w r time p. narrow_settles sel letters w r p time;
    calm = λ letters w r p q. narrow_calm sel letters w r p q;
  }

  pub narrowed_piece : {sole : ℕ} → sole ≡ sole_seed roots n → {out : List ℕ} → Selected net roots marks sole out → Narrowed (net_circuit net) n roots out
  narrowed_piece e {out} sel = enough (subst (λ (s : ℕ). Selected net roots marks s out) e sel)

-- roots that stay as they are
pub narrowed_same : {c : Circuit} {n : ℕ} {roots out : List ℕ} → out ≡ roots → length roots ≡ roots_length → Narrowed c n roots out
narrowed_same {c} {n} {roots} e long = subst (Narrowed c n roots) (sym e) (record { long = long; either = λ j _. inl refl; settles = λ letters w _ time p. refl; calm = λ letters w _ p q. q })

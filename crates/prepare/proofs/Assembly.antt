-- The parts of a prepared step make its roots.
use mathlib.Core.Path.{◌≡◌, refl, sym, ◌∙◌, ap, ap₂, subst}
use mathlib.Core.Logic.{◌⊎◌, inl, inr, ⊎_elim}
use mathlib.Core.List.{List}
use mathlib.Core.Bool.{Bool, true, false, not, ◌&&◌, ◌||◌, cond}
use Prim.Native.Nat.{ℕ, ◌+◌, ◌-◌, ◌≤◌, ◌<◌, min}
use native.Mathlib.Omega.{arith}
use lib.ListN.{length, get_or}
use lib.Dec.{ltb, eqb}
use borrow.Author.Tests.{lt-ltb, eqb-true, eq-eqb, ne_eqb}
use Rattle.lists.proofs.Cases.{bool_cases, lt_or_ge, and_left, and_right, and_both, or_left}
use Rattle.format.specs.declared.Transistor.{Transistor}
use Rattle.format.specs.Circuit.{Circuit}
use Rattle.diagram.specs.Pattern.{patterns}
use Rattle.diagram.specs.Table.{Table, number_at}
use Rattle.diagram.specs.Held.{held}
use Rattle.diagram.specs.Extends.{Extends}
use Rattle.diagram.proofs.Add.{extends_trans}
use Rattle.working.specs.Grown.{bit}
use Rattle.working.specs.Many.{Filled}
use Rattle.working.proofs.Grow.{open_three, open_few, open_sound}
use Rattle.diagram.proofs.Number.{number_zeroth, number_first}
use Rattle.working.proofs.Fill.{number_kept, used_kept, filled_used}
use Rattle.rules.specs.State.{State, is_inner}
use Rattle.rules.specs.Arrive.{changed}
use Rattle.rules.specs.Label.{label_at, joined, between_inner}
use Rattle.rules.specs.Group.{groups, in_group, of_group, is_seed}
use Rattle.rules.specs.Reach.{touched}
use Rattle.rules.specs.Kept.{conducts}
use Rattle.rules.proofs.Label.{joined_refl}
use Rattle.rules.specs.Matrix.{is_kept, is_held, transistor_at}
use Rattle.rules.proofs.Matrix.{kept_by_labels, LookedAt, group_kept}
use Rattle.net.specs.Net.{at, net_circuit, net_group}
use Rattle.net.specs.Laid.{Laid}
use Rattle.net.proofs.Laying.{nodes_length, transistors_length}
use Rattle.net.specs.Roots.{seeds_place, pending_place, all_roots_length}
use Rattle.prepare.specs.Steps.{Shows, Bits, group_of, considered, is_considered, seed_by, seed_number, differs, Active, looked_at, is_open, KeptAll}
use Rattle.prepare.specs.Roots.{NodeRoots, KeptRoots, Roots}
use Rattle.net.proofs.Loops.{kept_open}
use Rattle.prepare.proofs.Reading.{laid_legal, laid_label, group_is}
use Rattle.prepare.proofs.Seeding.{seed_same, bit_some}

-- a seed as rule 2 says
seed_rule : (c : Circuit) (before after : State) (n : ℕ) → seed_by c (changed before after) n ≡ is_seed c before after n
unfolding touched
seed_rule c before after n = refl

-- entries that changed, by states that show them
differs_shown : (letters nodes : ℕ) (t : Table) (before after : List ℕ) (p : ℕ) (sb sa : State) → Shows letters t before nodes p sb → Shows letters t after nodes p sa → (n : ℕ) → n < 2 + nodes → differs (2 + nodes) letters t before after p n ≡ changed sb sa n
differs_shown letters nodes t before after p sb sa hb ha n lt = rw (lt-ltb n (2 + nodes) lt, hb n lt, ha n lt)

-- the values brought over, in later tables
module _ {letters : ℕ} (t : Table) {t0 : Table} (after : List ℕ) (count : ℕ) {l1 w1 h1 ix1 : List ℕ} {used1 : ℕ} {values : List ℕ}
    (v : Filled 26 letters t0 (λ m p. cond (ltb m count) (number_at letters t (get_or after m 0) p) 0) l1 w1 h1 ix1 used1 values) where
  value_in : {u : Table} → Extends (held l1 w1 h1 used1) u → (n p : ℕ) → n < count → n < 26 → p < patterns letters → number_at letters u (get_or values n 0) p ≡ number_at letters t (get_or after n 0) p
  value_in x n p lt hn hp =
      number_kept v.opened x (get_or values n 0) p (filled_used v n hn)
      ∙ (v.means n hn).number p hp
      ∙ ap (λ (z : Bool). cond z (number_at letters t (get_or after n 0) p) 0) (lt-ltb n count lt)

  module _ {f : ℕ → ℕ → ℕ} {l2 w2 h2 ix2 : List ℕ} {used2 : ℕ} {waiting : List ℕ} (w : Filled 26 letters (held l1 w1 h1 used1) f l2 w2 h2 ix2 used2 waiting) where
    -- after the next changes and the seeds
    pub values_bits : {g : ℕ → ℕ → ℕ} {l3 w3 h3 ix3 : List ℕ} {used3 : ℕ} {seeds : List ℕ} (m : Filled 26 letters (held l2 w2 h2 used2) g l3 w3 h3 ix3 used3 seeds) {nodes : ℕ} → (count ≡ nodes + 2) × (nodes ≤ 24) → Bits letters t after (2 + nodes)
        → Bits letters (held l3 w3 h3 used3) values (2 + nodes)
    values_bits m e bits n p lt hp = subst (λ (z : ℕ). z ≤ 1) (sym (value_in (extends_trans w.extends m.extends) n p (omega (arith, e.0)) (omega (arith, e.0, e.1)) hp)) (bits n p lt hp)

module _ (net : List ℕ) (k : Laid (net_circuit net) net) {letters : ℕ} (t : Table) (before after pending : List ℕ) (all : Bool) (only count : ℕ) (is_count : count ≡ at net 0 + 2)
    {t0 : Table} {l1 w1 h1 ix1 l2 w2 h2 ix2 l3 w3 h3 ix3 l4 w4 h4 ix4 : List ℕ} {used1 used2 used3 used4 : ℕ} {values waiting seeds active kept nodes roots : List ℕ}
    (v : Filled 26 letters t0 (λ m p. cond (ltb m count) (number_at letters t (get_or after m 0) p) 0) l1 w1 h1 ix1 used1 values)
    (w : Filled 26 letters (held l1 w1 h1 used1) (λ m p. cond (ltb m count) (number_at letters t (get_or pending m 0) p) 0) l2 w2 h2 ix2 used2 waiting)
    (m : Filled 26 letters (held l2 w2 h2 used2) (λ n p. seed_number (net_circuit net) (2 + at net 0) all only (differs (2 + at net 0) letters t before after p) n) l3 w3 h3 ix3 used3 seeds)
    (g : Active (net_circuit net) (2 + at net 0) seeds active)
    (q : KeptAll (net_circuit net) (at net 0) letters (held l3 w3 h3 used3) values active (min (at net 2314) (at net 1)) (at net 1) l4 w4 h4 ix4 used4 kept)
    (a : NodeRoots values seeds waiting (2 + at net 0) nodes) (b : KeptRoots nodes kept 64 roots) where
  abbrev c : Circuit
  c = net_circuit net

  abbrev last : Table
  last = held l4 w4 h4 used4

  abbrev third : Table
  third = held l3 w3 h3 used3

  second_on : Extends (held l2 w2 h2 used2) last
  second_on = extends_trans m.extends q.extends

  first_on : Extends (held l1 w1 h1 used1) last
  first_on = extends_trans w.extends second_on

  -- the values' entries have the numbers of the lent table, in the last two tables
  value_last : (n p : ℕ) → n < 2 + at net 0 → p < patterns letters → number_at letters last (get_or values n 0) p ≡ number_at letters t (get_or after n 0) p
  value_last n p lt hp = value_in t after count v first_on n p (omega arith) (omega arith) hp

  pub value_third : (n p : ℕ) → n < 2 + at net 0 → p < patterns letters → number_at letters (held l3 w3 h3 used3) (get_or values n 0) p ≡ number_at letters t (get_or after n 0) p
  value_third n p lt hp = value_in t after count v (extends_trans w.extends m.extends) n p (omega arith) (omega arith) hp

  pending_last : (n p : ℕ) → n < 2 + at net 0 → p < patterns letters → number_at letters last (get_or waiting n 0) p ≡ number_at letters t (get_or pending n 0) p
  pending_last n p lt hp = value_in t pending count w second_on n p (omega arith) (omega arith) hp

  -- a group whose transistors are looked at at a pattern is an active one
  looked_active : (j p : ℕ) → j < 26 → number_at letters third (get_or active j 0) p ≡ 1 → get_or active j 0 ≡ 1
  looked_active j p h e =
      let some : get_or active j 0 ≡ 0 → ⊥ = λ z. omega (arith, e, ap (λ (x : ℕ). number_at letters third x p) z ∙ number_zeroth third p (open_few m.opened) (open_sound m.opened)) in
      omega (arith, g.bits j h, some)

  -- and where one is active, all of them are looked at
  active_looked : (n p : ℕ) → get_or active (label_at (groups c) n) 0 ≡ 1 → LookedAt c (looked_at c letters third active p) n
  active_looked n p e i hi of =
      eq-eqb _ 1
      (ap (λ (x : ℕ). number_at letters third x p) (ap (λ (x : ℕ). get_or active x 0) (sym (group_is c (laid_legal net k) i hi n of)) ∙ e)
      ∙ number_first third p (open_few m.opened) (open_sound m.opened))

  -- the rule keeps what is kept of an active group
  group_rule : (n i p : ℕ) (sa : State) → p < patterns letters → Shows letters t after (at net 0) p sa → get_or active (label_at (groups c) n) 0 ≡ 1 → i < at net 1 → of_group c n (transistor_at c i) ≡ true
      → number_at letters last (get_or roots (26 + i) 0) p ≡ bit (is_kept c sa i)
  group_rule n i p sa hp ha e hi of =
      ap (λ (z : ℕ). number_at letters last z p) (b.kept_at i (omega (arith, k.within.transistors)))
      ∙ ⊎_elim
      (λ (lt : i < min (at net 2314) (at net 1)).
      q.kept_is i p sa lt hp (λ j hj. ha j hj ∙ sym (value_third j p hj hp))
      ∙ ap bit (group_kept c (laid_legal net k) n sa (looked_at c letters third active p) (active_looked n p e) i (omega (arith, transistors_length net)) of))
      (λ (le : min (at net 2314) (at net 1) ≤ i).
      let own : get_or active (group_of c (transistor_at c i)) 0 ≡ 1 = ap (λ (x : ℕ). get_or active x 0) (sym (group_is c (laid_legal net k) i (omega (arith, transistors_length net)) n of)) ∙ e in
      q.open_is i p sa le hi hp (λ j hj. ha j hj ∙ sym (value_third j p hj hp))
      ∙ ap (λ (z : Bool). bit (not z && conducts sa (transistor_at c i))) (ne_eqb (get_or active (group_of c (transistor_at c i)) 0) 0 (λ z. omega (arith, own, z)))
      ∙ ap bit (sym (kept_open c (laid_legal net k) sa i (omega (arith, transistors_length net)) (k.loops i (omega (arith, le, hi)) hi))))
      (lt_or_ge i (min (at net 2314) (at net 1)))

  -- the label of an inner node
  small : (n : ℕ) → n < 2 + at net 0 → is_inner c n ≡ true → label_at (groups c) n < 26
  small n lt inner = let label : (at net (2288 + n) ≡ label_at (groups c) n) × (at net (2288 + n) < 26) = laid_label net k n lt inner in subst (λ (z : ℕ). z < 26) label.0 label.1

  -- the root that says whether a node is a seed
  module _ (n : ℕ) (lt : n < 2 + at net 0) where
    seed_root : get_or roots (seeds_place + n) 0 ≡ get_or seeds n 0
    seed_root = b.above_at (seeds_place + n) (omega arith) ∙ a.seed_at n lt

    seed_number_lem : (p : ℕ) → p < patterns letters → number_at letters last (get_or roots (seeds_place + n) 0) p ≡ bit (is_considered c only n && (all || seed_by c (differs (2 + at net 0) letters t before after p) n))
    seed_number_lem p hp =
        ap (λ (e : ℕ). number_at letters last e p) seed_root
        ∙ number_kept m.opened q.extends (get_or seeds n 0) p (filled_used m n (omega (arith, k.within.nodes)))
        ∙ (m.means n (omega (arith, k.within.nodes))).number p hp
        ∙ ap (λ (z : Bool). cond z (bit (is_considered c only n && (all || seed_by c (differs (2 + at net 0) letters t before after p) n))) 0) (lt-ltb n (2 + at net 0) lt)

    module _ (inner : is_inner c n ≡ true) where
      seed_is : considered only (net_group net n) ≡ true → (p : ℕ) (sb sa : State) → p < patterns letters → Shows letters t before (at net 0) p sb → Shows letters t after (at net 0) p sa
          → number_at letters last (get_or roots (seeds_place + n) 0) p ≡ bit (all || is_seed c sb sa n)
      seed_is so p sb sa hp hb ha =
          let own : is_considered c only n ≡ true = and_both (is_inner c n) (considered only (label_at (groups c) n)) inner (subst (λ (z : ℕ). considered only z ≡ true) (laid_label net k n lt inner).0 so) in
          seed_number_lem p hp
          ∙ ap₂ (λ (x y : Bool). bit (x && (all || y))) own
          (seed_same c (laid_legal net k) (differs (2 + at net 0) letters t before after p) (changed sb sa)
          (λ i hi. differs_shown letters (at net 0) t before after p sb sa hb ha i (omega (arith, nodes_length net))) n
          ∙ seed_rule c sb sa n)

      -- where it is one, its group is active
      seed_active : (p : ℕ) → number_at letters last (get_or roots (seeds_place + n) 0) p ≡ 1 → get_or active (label_at (groups c) n) 0 ≡ 1
      seed_active p e =
          g.marked n lt inner
          (λ z. omega (arith, e, ap (λ (x : ℕ). number_at letters last x p) (seed_root ∙ z) ∙ number_zeroth last p (open_few q.opened) (open_sound q.opened)))

  -- a transistor that is kept is looked at, and so is its whole group: the rule keeps it
  module _ (i p : ℕ) (sa : State) (hp : p < patterns letters) (ha : Shows letters t after (at net 0) p sa) (hi : i < at net 1) where
    abbrev u : Transistor
    u = transistor_at c i

    abbrev seen : ℕ → Bool
    seen = looked_at c letters third active p

    here : i < length c.transistors
    here = omega (arith, transistors_length net)

    root_is : number_at letters last (get_or roots (26 + i) 0) p ≡ number_at letters last (get_or kept i 0) p
    root_is = ap (λ (z : ℕ). number_at letters last z p) (b.kept_at i (omega (arith, k.within.transistors)))

    -- past the last that closes a loop it conducts
    open_only : number_at letters last (get_or roots (26 + i) 0) p ≡ 1 → min (at net 2314) (at net 1) ≤ i → is_kept c sa i ≡ true
    open_only e le =
        let some : is_open c sa active i ≡ true = bit_some (is_open c sa active i) (λ z. omega (arith, sym e ∙ root_is ∙ q.open_is i p sa le hi hp (λ j hj. ha j hj ∙ sym (value_third j p hj hp)) ∙ z)) in
        kept_open c (laid_legal net k) sa i here (k.loops i (omega (arith, le, hi)) hi) ∙ and_right (not (eqb (get_or active (group_of c u) 0) 0)) (conducts sa u) some

    module _ (e : number_at letters last (get_or roots (26 + i) 0) p ≡ 1) (before' : i < min (at net 2314) (at net 1)) where
      is_held_lem : is_held c sa seen i ≡ true
      is_held_lem = bit_some (is_held c sa seen i) (λ z. omega (arith, sym e ∙ root_is ∙ q.kept_is i p sa before' hp (λ j hj. ha j hj ∙ sym (value_third j p hj hp)) ∙ z))

      is_on : conducts sa u && seen i ≡ true
      is_on = and_left (conducts sa u && seen i) _ is_held_lem

      kept_driven : between_inner c u ≡ false → is_kept c sa i ≡ true
      kept_driven d = kept_by_labels c sa i here ∙ rw d (rw (and_left (conducts sa u) (seen i) is_on))

      kept_between : between_inner c u ≡ true → is_kept c sa i ≡ true
      kept_between d =
          let inner : is_inner c u.first ≡ true = and_left (is_inner c u.first) (is_inner c u.second) d in
          let lt : u.first < 2 + at net 0 = omega (arith, ((laid_legal net k).transistor i here).first_is, nodes_length net) in
          let of : of_group c u.first u ≡ true = or_left (in_group c u.first u.first) _ (and_both (is_inner c u.first) (joined (groups c) u.first u.first) inner (joined_refl (groups c) u.first)) in
          let same : group_of c u ≡ label_at (groups c) u.first = rw inner in
          let mark : get_or active (label_at (groups c) u.first) 0 ≡ 1 =
          looked_active (label_at (groups c) u.first) p (small u.first lt inner)
          (sym (ap (λ (z : ℕ). number_at letters third (get_or active z 0) p) same) ∙ eqb-true _ 1 (and_right (conducts sa u) (seen i) is_on)) in
          bit_some (is_kept c sa i) (λ z. omega (arith, sym e ∙ group_rule u.first i p sa hp ha mark hi of ∙ z))

      looped_only : is_kept c sa i ≡ true
      looped_only = ⊎_elim kept_between kept_driven (bool_cases (between_inner c u))

    kept_only : number_at letters last (get_or roots (26 + i) 0) p ≡ 1 → is_kept c sa i ≡ true
    kept_only e = ⊎_elim (looped_only e) (open_only e) (lt_or_ge i (min (at net 2314) (at net 1)))

  -- every root is a used entry
  within : (j : ℕ) → j < all_roots_length → get_or roots j 0 < used4
  within j hj = parts (lt_or_ge j 26) (lt_or_ge j seeds_place) (lt_or_ge j pending_place)
    where
      zero_used : 0 < used4
      zero_used = omega (arith, open_three q.opened)

      on1 : {e : ℕ} → e < used1 → e < used4
      on1 lt = used_kept v.opened q.opened first_on lt

      on2 : {e : ℕ} → e < used2 → e < used4
      on2 lt = used_kept w.opened q.opened second_on lt

      on3 : {e : ℕ} → e < used3 → e < used4
      on3 lt = used_kept m.opened q.opened q.extends lt

      blank : (r : ℕ) → get_or nodes r 0 ≡ 0 → get_or nodes r 0 < used4
      blank r e = subst (λ (z : ℕ). z < used4) (sym e) zero_used

      value_part : j < 26 → get_or roots j 0 < used4
      value_part lt =
          subst (λ (z : ℕ). z < used4) (sym (b.below_at j lt))
          (⊎_elim
          (λ (h : j < 2 + at net 0). subst (λ (z : ℕ). z < used4) (sym (a.value_at_lem j h)) (on1 (filled_used v j lt)))
          (λ (h : 2 + at net 0 ≤ j). blank j (a.rest_at j (λ _. h) (λ x y. absurd (omega arith)) (λ x. absurd (omega arith))))
          (lt_or_ge j (2 + at net 0)))

      kept_part : 26 ≤ j → j < seeds_place → get_or roots j 0 < used4
      kept_part le lt =
          let here : 26 + (j - 26) ≡ j = omega arith in
          subst (λ (z : ℕ). get_or roots z 0 < used4) here (subst (λ (z : ℕ). z < used4) (sym (b.kept_at (j - 26) (omega arith))) (q.kept_used (j - 26) (omega arith)))

      seeds_part : seeds_place ≤ j → j < pending_place → get_or roots j 0 < used4
      seeds_part le lt =
          subst (λ (z : ℕ). z < used4) (sym (b.above_at j (omega arith)))
          (⊎_elim
          (λ (h : j < seeds_place + (2 + at net 0)).
          let here : seeds_place + (j - seeds_place) ≡ j = omega arith in
          subst (λ (z : ℕ). get_or nodes z 0 < used4) here (subst (λ (z : ℕ). z < used4) (sym (a.seed_at (j - seeds_place) (omega arith))) (on3 (filled_used m (j - seeds_place) (omega arith)))))
          (λ (h : seeds_place + (2 + at net 0) ≤ j). blank j (a.rest_at j (λ x. absurd (omega arith)) (λ x y. h) (λ x. absurd (omega arith))))
          (lt_or_ge j (seeds_place + (2 + at net 0))))

      pending_part : pending_place ≤ j → get_or roots j 0 < used4
      pending_part le =
          subst (λ (z : ℕ). z < used4) (sym (b.above_at j (omega arith)))
          (⊎_elim
          (λ (h : j < pending_place + (2 + at net 0)).
          let here : pending_place + (j - pending_place) ≡ j = omega arith in
          subst (λ (z : ℕ). get_or nodes z 0 < used4) here (subst (λ (z : ℕ). z < used4) (sym (a.pending_at (j - pending_place) (omega arith))) (on2 (filled_used w (j - pending_place) (omega arith)))))
          (λ (h : pending_place + (2 + at net 0) ≤ j). blank j (a.rest_at j (λ x. absurd (omega arith)) (λ x y. absurd (omega arith)) (λ x. h)))
          (lt_or_ge j (pending_place + (2 + at net 0))))

      parts : (j < 26) ⊎ (26 ≤ j) → (j < seeds_place) ⊎ (seeds_place ≤ j) → (j < pending_place) ⊎ (pending_place ≤ j) → get_or roots j 0 < used4
      parts (inl h) y z = value_part h
      parts (inr h) (inl y) z = kept_part h y
      parts (inr h) (inr y) (inl z) = seeds_part y z
      parts (inr h) (inr y) (inr z) = pending_part z

  pub assembled : Roots net letters t before after pending all only l4 w4 h4 ix4 used4 roots
  assembled = record {
    opened = q.opened;
    within = within;
    value_is = λ n p lt hp. ap (λ (z : ℕ). number_at letters last z p) (b.below_at n (omega arith) ∙ a.value_at_lem n lt) ∙ value_last n p lt hp;
    pending_is = λ n p lt hp. ap (λ (z : ℕ). number_at letters last z p) (b.above_at (pending_place + n) (omega arith) ∙ a.pending_at n lt) ∙ pending_last n p lt hp;
    seed_is = λ n p sb sa lt inner so hp hb ha. seed_is n lt inner so p sb sa hp hb ha;
    kept_is = λ n i p sa lt inner so hp ha e hi of. group_rule n i p sa hp ha (seed_active n lt inner p e) hi of;
    kept_only = λ i p sa hp ha hi e. kept_only i p sa hp ha hi e;
  }

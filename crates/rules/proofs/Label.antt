-- Labels join what their channels link: the laws of joining, and the pieces as a closure of "a channel between inner nodes".
use mathlib.Core.Path.{◌≡◌, refl, sym, ◌∙◌, ap, ap₂, subst}
use mathlib.Core.Logic.{◌⊎◌, inl, inr, ⊎_elim, ⊎_map, ◌↔◌}
use mathlib.Core.Bool.{Bool, true, false, ◌||◌, cond}
use mathlib.Core.List.{List, [], ◌∷◌, map, Memᴰ}
use Prim.Native.Nat.{ℕ, zero, suc, ◌+◌, ◌-◌, ◌≤◌, ◌<◌}
use native.Mathlib.Omega.{arith}
use lib.ListN.{length, get_or, length-map}
use lib.Dec.{eqb, ltb}
use borrow.Author.Tests.{ltb-false, eqb-true, not-true, eq-eqb, ne_eqb}
use Rattle.lists.proofs.Cases.{bool_cases, eq_or_ne, and_left, and_right, or_cases, or_left, or_right}
use Rattle.lists.proofs.Map.{map_at}
use Rattle.format.specs.declared.Transistor.{Transistor}
use Rattle.format.specs.Circuit.{Circuit, no_transistor}
use Rattle.format.specs.Legal.{is_input}
use Rattle.format.proofs.Legal.{LegalTransistor, LegalCell}
use Rattle.rules.specs.State.{up_from, node_numbers, is_driven, is_inner}
use Rattle.rules.specs.Label.{Labels, label_at, joined, join, between_inner, link_from, pieces, some, only}
use Rattle.rules.specs.Group.{groups}
use Rattle.rules.proofs.State.{up_length, up_at}

-- no test passes and fails
pub false_true : {A : Type 0} → false ≡ true → A
false_true e = let z : ◌≡◌ {A = ℕ} 0 1 = cc in absurd (omega arith)

-- a test that fails in both parts
pub or_neither : (x y : Bool) → x || y ≡ false → (x ≡ false) × (y ≡ false)
or_neither true y e = false_true (sym e)
or_neither false y e = (refl, e)

-- n is the number of one of so many node records
pub record IsNode (nodes n : ℕ) : Type 0 where
  pub least : 2 ≤ n
  pub most : n < 2 + nodes

-- every transistor of a list is legal for so many node records
abbrev pub AllLegal : ℕ → List Transistor → Type 0
AllLegal nodes ts = (t : Transistor) → Memᴰ t ts → LegalTransistor nodes t

-- what holds of a list place by place holds of each element
pub at_each : {A : Type 0} (P : A → Type 0) (d : A) (xs : List A) → ((i : ℕ) → i < length xs → P (get_or xs i d)) → (x : A) → Memᴰ x xs → P x
at_each P d [] h x m = absurd (mathlib.Core.List.Memᴰ.not-nil m)
at_each {A} P d (y ∷ ys) h x m =
    let later : Memᴰ x ys → P x = λ at. at_each P d ys (λ i lt. h (suc i) (omega arith)) x at in
    ⊎_elim (λ (q : x ≡ y). subst P (sym q) (h zero (omega arith))) later (mathlib.Core.List.Memᴰ.cases_cons m)

-- a legal cell's transistors are legal
pub all_legal : {c : Circuit} → LegalCell c → AllLegal (length c.nodes) c.transistors
all_legal {c} l = at_each (LegalTransistor (length c.nodes)) no_transistor c.transistors l.transistor

-- an inner node of a range of node numbers is a node record's
pub inner_node_lem : (c : Circuit) (nodes n : ℕ) → is_inner c n ≡ true → n < 2 + nodes → IsNode nodes n
inner_node_lem c nodes n e h =
    let rail : (ltb n 2 ≡ false) × (is_input c n ≡ false) = or_neither (ltb n 2) (is_input c n) (not-true (is_driven c n) e) in
    record { least = ltb-false n 2 rail.0; most = h }

-- the ends of a channel between inner nodes are numbers of node records
pub ends_inner : (c : Circuit) (nodes : ℕ) (t : Transistor) → LegalTransistor nodes t → between_inner c t ≡ true → IsNode nodes t.first × IsNode nodes t.second
ends_inner c nodes t h e = (
  inner_node_lem c nodes t.first (and_left (is_inner c t.first) (is_inner c t.second) e) h.first_is,
  inner_node_lem c nodes t.second (and_right (is_inner c t.first) (is_inner c t.second) e) h.second_is,
)

-- what joining makes of a label: b's becomes a's
pub relabel : ℕ → ℕ → ℕ → ℕ
relabel a b l = cond (eqb l b) a l

-- another label stays
pub relabel_other : (a b l : ℕ) → (l ≡ b → ⊥) → relabel a b l ≡ l
unfolding relabel
relabel_other a b l h = rw (ne_eqb l b h)

-- b's label becomes a's
pub relabel_same : (a b l : ℕ) → l ≡ b → relabel a b l ≡ a
unfolding relabel
relabel_same a b l h = rw (eq-eqb l b h)

-- a's own label stays
pub relabel_first : (a b : ℕ) → relabel a b a ≡ a
relabel_first a b = ⊎_elim (λ (e : a ≡ b). relabel_same a b a e) (λ (h : a ≡ b → ⊥). relabel_other a b a h) (eq_or_ne a b)

-- as many labels as before
pub length_join : (ls : Labels) (a b : ℕ) → length (join ls a b) ≡ length ls
length_join ls a b = length-map ls (λ (l : ℕ). cond (eqb l (label_at ls b)) (label_at ls a) l)

-- the label of a node after a join
pub label_join : (ls : Labels) (a b x : ℕ) → IsNode (length ls) x → label_at (join ls a b) x ≡ relabel (label_at ls a) (label_at ls b) (label_at ls x)
unfolding relabel
label_join ls a b x h = map_at (λ (l : ℕ). cond (eqb l (label_at ls b)) (label_at ls a) l) ls x x (x - 2) (omega arith)

-- two nodes of one label
abbrev pub Alike : Labels → ℕ → ℕ → Type 0
Alike ls x y = label_at ls x ≡ label_at ls y

-- the three ways in which a and b joined make two nodes joined, by a relation that held before
abbrev pub Through : (ℕ → ℕ → Type 0) → ℕ → ℕ → ℕ → ℕ → Type 0
Through R a b x y = R x y ⊎ ((R x a × R y b) ⊎ (R x b × R y a))

module _ (ls : Labels) (a b x y : ℕ) (hx : IsNode (length ls) x) (hy : IsNode (length ls) y) where
  both_of : Alike (join ls a b) x y → relabel (label_at ls a) (label_at ls b) (label_at ls x) ≡ relabel (label_at ls a) (label_at ls b) (label_at ls y)
  both_of e = sym (label_join ls a b x hx) ∙ e ∙ label_join ls a b y hy

  -- joined after: joined before, or one with a and the other with b
  pub join_only : Alike (join ls a b) x y → Through (Alike ls) a b x y
  join_only e =
      ⊎_elim
      (λ (p : label_at ls x ≡ label_at ls b).
      ⊎_elim
      (λ (q : label_at ls y ≡ label_at ls b). inl (p ∙ sym q))
      (λ (q : label_at ls y ≡ label_at ls b → ⊥). inr (inr (p, sym (sym (relabel_same _ _ _ p) ∙ both_of e ∙ relabel_other _ _ _ q))))
      (eq_or_ne (label_at ls y) (label_at ls b)))
      (λ (p : label_at ls x ≡ label_at ls b → ⊥).
      ⊎_elim
      (λ (q : label_at ls y ≡ label_at ls b). inr (inl (sym (relabel_other _ _ _ p) ∙ both_of e ∙ relabel_same _ _ _ q, q)))
      (λ (q : label_at ls y ≡ label_at ls b → ⊥). inl (sym (relabel_other _ _ _ p) ∙ both_of e ∙ relabel_other _ _ _ q))
      (eq_or_ne (label_at ls y) (label_at ls b)))
      (eq_or_ne (label_at ls x) (label_at ls b))

  -- joined nodes stay joined
  pub join_keeps : Alike ls x y → Alike (join ls a b) x y
  join_keeps e = label_join ls a b x hx ∙ ap (relabel (label_at ls a) (label_at ls b)) e ∙ sym (label_join ls a b y hy)

  -- what was joined with a is joined with what was joined with b
  pub join_links : Alike ls x a → Alike ls y b → Alike (join ls a b) x y
  join_links p q =
      label_join ls a b x hx ∙ ap (relabel (label_at ls a) (label_at ls b)) p ∙ relabel_first (label_at ls a) (label_at ls b)
      ∙ sym (relabel_same (label_at ls a) (label_at ls b) (label_at ls y) q) ∙ sym (label_join ls a b y hy)

-- the test tells of labels
pub joined_alike : (ls : Labels) (x y : ℕ) → joined ls x y ≡ true → Alike ls x y
joined_alike ls x y e = eqb-true (label_at ls x) (label_at ls y) e

-- and the other way
pub alike_joined : (ls : Labels) (x y : ℕ) → Alike ls x y → joined ls x y ≡ true
alike_joined ls x y e = eq-eqb (label_at ls x) (label_at ls y) e

-- joined is an equivalence: each node is joined to itself
pub joined_refl : (ls : Labels) (x : ℕ) → joined ls x x ≡ true
joined_refl ls x = alike_joined ls x x refl

-- it goes both ways
pub joined_sym : (ls : Labels) (x y : ℕ) → joined ls x y ≡ true → joined ls y x ≡ true
joined_sym ls x y e = alike_joined ls y x (sym (joined_alike ls x y e))

-- and passes on
pub joined_trans : (ls : Labels) (x y z : ℕ) → joined ls x y ≡ true → joined ls y z ≡ true → joined ls x z ≡ true
joined_trans ls x y z e f = alike_joined ls x z (joined_alike ls x y e ∙ joined_alike ls y z f)

-- joined, as a fact
abbrev pub Joined : Labels → ℕ → ℕ → Type 0
Joined ls x y = joined ls x y ≡ true

-- after a join two nodes are joined exactly if they were, or one was with a and the other with b
pub join_exactly : (ls : Labels) (a b x y : ℕ) → IsNode (length ls) x → IsNode (length ls) y → Joined (join ls a b) x y ↔ Through (Joined ls) a b x y
join_exactly ls a b x y hx hy = (only, links)
  where
    only : Joined (join ls a b) x y → Through (Joined ls) a b x y
    only e =
        ⊎_map
        (λ (p : Alike ls x y). alike_joined ls x y p)
        (λ (q : (Alike ls x a × Alike ls y b) ⊎ (Alike ls x b × Alike ls y a)).
        ⊎_map
        (λ (p : Alike ls x a × Alike ls y b). (alike_joined ls x a p.0, alike_joined ls y b p.1))
        (λ (p : Alike ls x b × Alike ls y a). (alike_joined ls x b p.0, alike_joined ls y a p.1))
        q)
        (join_only ls a b x y hx hy (joined_alike (join ls a b) x y e))

    links : Through (Joined ls) a b x y → Joined (join ls a b) x y
    links (inl e) = alike_joined (join ls a b) x y (join_keeps ls a b x y hx hy (joined_alike ls x y e))
    links (inr (inl p)) = alike_joined (join ls a b) x y (join_links ls a b x y hx hy (joined_alike ls x a p.0) (joined_alike ls y b p.1))
    links (inr (inr p)) = joined_sym (join ls a b) y x (alike_joined (join ls a b) y x (join_links ls a b y x hy hx (joined_alike ls y a p.1) (joined_alike ls x b p.0)))

-- at first each node's label is its number
pub first_label : (nodes x : ℕ) → IsNode nodes x → label_at (up_from nodes 2) x ≡ x
first_label nodes x h = up_at nodes 2 (x - 2) x (omega arith) ∙ omega arith

-- and joins it to itself alone
pub first_joined : (c : Circuit) (x y : ℕ) → IsNode (length c.nodes) x → IsNode (length c.nodes) y → Joined (node_numbers c) x y → x ≡ y
first_joined c x y hx hy e =
    sym (first_label (length c.nodes) x hx) ∙ joined_alike (node_numbers c) x y e ∙ first_label (length c.nodes) y hy

-- a channel of a list between inner nodes x and y
pub record Between (c : Circuit) (ts : List Transistor) (x y : ℕ) : Type 0 where
  pub transistor : Transistor
  pub listed : Memᴰ transistor ts
  pub inner : between_inner c transistor ≡ true
  pub ends : ((transistor.first ≡ x) × (transistor.second ≡ y)) ⊎ ((transistor.first ≡ y) × (transistor.second ≡ x))

-- two nodes are linked where channels of the list between inner nodes lead from one to the other
pub data Linked (c : Circuit) (ts : List Transistor) : ℕ → ℕ → Type 0 where
  linked_same : {x y : ℕ} → x ≡ y → Linked c ts x y
  linked_over : {x y z : ℕ} → Between c ts x y → Linked c ts y z → Linked c ts x z

between_sym : {c : Circuit} {ts : List Transistor} {x y : ℕ} → Between c ts x y → Between c ts y x
between_sym b = record { transistor = b.transistor; listed = b.listed; inner = b.inner; ends = ⊎_elim inr inl b.ends }

module _ {c : Circuit} {ts : List Transistor} where
  -- linked passes on
  pub linked_trans : {x y z : ℕ} → Linked c ts x y → Linked c ts y z → Linked c ts x z
  linked_trans (linked_same {x = x} {y = y} e) q = from e q
    where
      from : {x y z : ℕ} → x ≡ y → Linked c ts y z → Linked c ts x z
      from e (linked_same f) = linked_same (e ∙ f)
      from e (linked_over b r) = linked_over (record { transistor = b.transistor; listed = b.listed; inner = b.inner; ends = ⊎_map (λ p. (p.0 ∙ sym e, p.1)) (λ p. (p.0, p.1 ∙ sym e)) b.ends }) r
  linked_trans (linked_over b r) q = linked_over b (linked_trans r q)

  -- and goes both ways
  pub linked_sym : {x y : ℕ} → Linked c ts x y → Linked c ts y x
  linked_sym (linked_same e) = linked_same (sym e)
  linked_sym (linked_over b r) = linked_trans (linked_sym r) (linked_over (between_sym b) (linked_same refl))

-- the labels after one transistor
abbrev link_one : Circuit → Labels → Transistor → Labels
link_one c ls t = cond (between_inner c t) (join ls t.first t.second) ls

-- labels for so many nodes, under which two nodes have one label only if they are related
record Within (nodes : ℕ) (R : ℕ → ℕ → Type 0) (ls : Labels) : Type 0 where
  size : length ls ≡ nodes
  only : (x y : ℕ) → IsNode nodes x → IsNode nodes y → Alike ls x y → R x y

module _ (c : Circuit) (nodes : ℕ) where
  one_length : (ls : Labels) (t : Transistor) → length (link_one c ls t) ≡ length ls
  one_length ls t =
      ⊎_elim
      (λ (e : between_inner c t ≡ true). rw e (length_join ls t.first t.second))
      (λ (e : between_inner c t ≡ false). rw e)
      (bool_cases (between_inner c t))

  -- as many labels as before, over all transistors
  pub link_length : (ts : List Transistor) (ls : Labels) → length (link_from c ls ts) ≡ length ls
  unfolding link_from
  link_length [] ls = refl
  link_length (t ∷ ts) ls = link_length ts (link_one c ls t) ∙ one_length ls t

  module _ (x y : ℕ) (hx : IsNode nodes x) (hy : IsNode nodes y) where
    one_keeps : (ls : Labels) (t : Transistor) → length ls ≡ nodes → Alike ls x y → Alike (link_one c ls t) x y
    one_keeps ls t len same =
        ⊎_elim
        (λ (e : between_inner c t ≡ true). rw e (join_keeps ls t.first t.second x y (omega arith) (omega arith) same))
        (λ (e : between_inner c t ≡ false). rw e same)
        (bool_cases (between_inner c t))

    -- joined nodes stay joined over the transistors that follow
    pub link_keeps : (ts : List Transistor) (ls : Labels) → length ls ≡ nodes → Alike ls x y → Alike (link_from c ls ts) x y
    unfolding link_from
    link_keeps [] ls len same = same
    link_keeps (t ∷ ts) ls len same = link_keeps ts (link_one c ls t) (one_length ls t ∙ len) (one_keeps ls t len same)

  -- the ends of a channel between inner nodes are joined
  pub link_joins : (t : Transistor) → LegalTransistor nodes t → between_inner c t ≡ true → (ts : List Transistor) (ls : Labels) → length ls ≡ nodes → Memᴰ t ts → Alike (link_from c ls ts) t.first t.second
  unfolding link_from
  link_joins t h e [] ls len m = absurd (mathlib.Core.List.Memᴰ.not-nil m)
  link_joins t h e (u ∷ ts) ls len m =
      let in_two : IsNode nodes t.first × IsNode nodes t.second = ends_inner c nodes t h e in
      let first_two : IsNode (length ls) t.first = omega (arith, in_two.0) in
      let second-two : IsNode (length ls) t.second = omega (arith, in_two.1) in
      let now : Alike (link_one c ls t) t.first t.second = rw e (join_links ls t.first t.second t.first t.second first_two second-two refl refl) in
      let later : Memᴰ t ts → Alike (link_from c (link_one c ls u) ts) t.first t.second = λ at. link_joins t h e ts (link_one c ls u) (one_length ls u ∙ len) at in
      ⊎_elim
      (λ (q : t ≡ u). link_keeps t.first t.second in_two.0 in_two.1 ts (link_one c ls u) (one_length ls u ∙ len) (subst (λ (v : Transistor). Alike (link_one c ls v) t.first t.second) q now))
      later
      (mathlib.Core.List.Memᴰ.cases_cons m)

module _ (c : Circuit) (nodes : ℕ) (all : List Transistor) where
  one_only : (ls : Labels) (t : Transistor) → LegalTransistor nodes t → Memᴰ t all → Within nodes (Linked c all) ls → Within nodes (Linked c all) (link_one c ls t)
  one_only ls t h m w =
      ⊎_elim
      (λ (e : between_inner c t ≡ true). rw e (record { size = length_join ls t.first t.second ∙ w.size; only = λ x y hx hy same. over e x y hx hy same }))
      (λ (e : between_inner c t ≡ false). rw e w)
      (bool_cases (between_inner c t))
    where
      edge : between_inner c t ≡ true → Linked c all t.first t.second
      edge e = linked_over (record { transistor = t; listed = m; inner = e; ends = inl (refl, refl) }) (linked_same refl)

      over : between_inner c t ≡ true → (x y : ℕ) → IsNode nodes x → IsNode nodes y → Alike (join ls t.first t.second) x y → Linked c all x y
      over e x y hx hy same =
          let len : length ls ≡ nodes = w.size in
          let in_two : IsNode nodes t.first × IsNode nodes t.second = ends_inner c nodes t h e in
          ⊎_elim
          (λ (p : Alike ls x y). w.only x y hx hy p)
          (λ (q : (Alike ls x t.first × Alike ls y t.second) ⊎ (Alike ls x t.second × Alike ls y t.first)).
          ⊎_elim
          (λ (p : Alike ls x t.first × Alike ls y t.second).
          linked_trans (w.only x t.first hx in_two.0 p.0) (linked_trans (edge e) (linked_sym (w.only y t.second hy in_two.1 p.1))))
          (λ (p : Alike ls x t.second × Alike ls y t.first).
          linked_trans (w.only x t.second hx in_two.1 p.0) (linked_trans (linked_sym (edge e)) (linked_sym (w.only y t.first hy in_two.0 p.1))))
          q)
          (join_only ls t.first t.second x y (omega arith) (omega arith) same)

  -- nodes that the labels join are linked
  link_only : (ts : List Transistor) (ls : Labels) → ((t : Transistor) → Memᴰ t ts → Memᴰ t all) → AllLegal nodes ts → Within nodes (Linked c all) ls → Within nodes (Linked c all) (link_from c ls ts)
  unfolding link_from
  link_only [] ls sub h w = w
  link_only (t ∷ ts) ls sub h w =
      link_only ts (link_one c ls t) (λ u m. sub u (mathlib.Core.List.Memᴰ.tail m)) (λ u m. h u (mathlib.Core.List.Memᴰ.tail m))
      (one_only ls t (h t (mathlib.Core.List.Memᴰ.head refl)) (sub t (mathlib.Core.List.Memᴰ.head refl)) w)

-- Labels tell exactly the paths: two nodes are of one piece where channels of the list lead from one to the other through inner nodes.
module _ (c : Circuit) (ts : List Transistor) (h : AllLegal (length c.nodes) ts) where
  pub pieces_only : (x y : ℕ) → IsNode (length c.nodes) x → IsNode (length c.nodes) y → Joined (pieces c ts) x y → Linked c ts x y
  pieces_only x y hx hy e =
      (link_only c (length c.nodes) ts ts (node_numbers c) (λ t m. m) h
      (record {
        size = up_length (length c.nodes) 2;
        only = λ u v hu hv same. linked_same (first_joined c u v hu hv (alike_joined (node_numbers c) u v same));
      })
      ).only x y hx hy (joined_alike (pieces c ts) x y e)

  between_alike : {x y : ℕ} → Between c ts x y → Alike (pieces c ts) x y
  between_alike {x} {y} b =
      let ends : Alike (pieces c ts) b.transistor.first b.transistor.second =
      link_joins c (length c.nodes) b.transistor (h b.transistor b.listed) b.inner ts (node_numbers c) (up_length (length c.nodes) 2) b.listed in
      ⊎_elim
      (λ (p : (b.transistor.first ≡ x) × (b.transistor.second ≡ y)). ap (label_at (pieces c ts)) (sym p.0) ∙ ends ∙ ap (label_at (pieces c ts)) p.1)
      (λ (p : (b.transistor.first ≡ y) × (b.transistor.second ≡ x)). ap (label_at (pieces c ts)) (sym p.1) ∙ sym ends ∙ ap (label_at (pieces c ts)) p.0)
      b.ends

  linked_alike : {x y : ℕ} → Linked c ts x y → Alike (pieces c ts) x y
  linked_alike (linked_same e) = ap (label_at (pieces c ts)) e
  linked_alike (linked_over b r) = between_alike b ∙ linked_alike r

  pub pieces_join : (x y : ℕ) → Linked c ts x y → Joined (pieces c ts) x y
  pieces_join x y l = alike_joined (pieces c ts) x y (linked_alike l)

  pub pieces_exactly : (x y : ℕ) → IsNode (length c.nodes) x → IsNode (length c.nodes) y → Joined (pieces c ts) x y ↔ Linked c ts x y
  pieces_exactly x y hx hy = (pieces_only x y hx hy, pieces_join x y)

module _ (c : Circuit) (h : AllLegal (length c.nodes) c.transistors) where
  -- linked nodes are of one group
  pub groups_join : (x y : ℕ) → Linked c c.transistors x y → Joined (groups c) x y
  unfolding groups
  groups_join x y l = pieces_join c c.transistors h x y l

  -- the groups are the inner nodes linked by channels, conducting or not
  pub groups_exactly : (x y : ℕ) → IsNode (length c.nodes) x → IsNode (length c.nodes) y → Joined (groups c) x y ↔ Linked c c.transistors x y
  unfolding groups
  groups_exactly x y hx hy = pieces_exactly c c.transistors h x y hx hy

-- channels of a larger list lead as far
pub linked_more : {c : Circuit} {ts us : List Transistor} → ((t : Transistor) → Memᴰ t ts → Memᴰ t us) → {x y : ℕ} → Linked c ts x y → Linked c us x y
linked_more h (linked_same e) = linked_same e
linked_more h (linked_over b r) = linked_over (record { transistor = b.transistor; listed = h b.transistor b.listed; inner = b.inner; ends = b.ends }) (linked_more h r)

-- joining what is joined changes nothing
pub join_joined : (ls : Labels) (a b : ℕ) → joined ls a b ≡ true → join ls a b ≡ ls
join_joined ls a b e = same ls
  where
    one : (l : ℕ) → cond (eqb l (label_at ls b)) (label_at ls a) l ≡ l
    one l =
        ⊎_elim
        (λ (q : l ≡ label_at ls b). rw (eq-eqb l (label_at ls b) q) (joined_alike ls a b e ∙ sym q))
        (λ (q : l ≡ label_at ls b → ⊥). rw (ne_eqb l (label_at ls b) q))
        (eq_or_ne l (label_at ls b))

    same : (xs : List ℕ) → map (λ (l : ℕ). cond (eqb l (label_at ls b)) (label_at ls a) l) xs ≡ xs
    same [] = refl
    same (x ∷ xs) = ap₂ ◌∷◌ (one x) (same xs)

-- some element passes exactly where one is known that does
module _ {A : Type 0} (test : A → Bool) where
  pub some_found : (xs : List A) → some test xs ≡ true → (x : A) × Memᴰ x xs × (test x ≡ true)
  unfolding some
  some_found [] e = false_true e
  some_found (y ∷ ys) e =
      ⊎_elim
      (λ (q : test y ≡ true). (y, mathlib.Core.List.Memᴰ.head refl, q))
      (λ (q : some test ys ≡ true). let r = some_found ys q in (r.0, mathlib.Core.List.Memᴰ.tail r.1, r.2))
      (or_cases (test y) (some test ys) e)

  pub some_passes : (xs : List A) (x : A) → Memᴰ x xs → test x ≡ true → some test xs ≡ true
  unfolding some
  some_passes [] x m e = absurd (mathlib.Core.List.Memᴰ.not-nil m)
  some_passes (y ∷ ys) x m e =
      ⊎_elim
      (λ (q : x ≡ y). or_left (test y) (some test ys) (subst (λ (z : A). test z ≡ true) q e))
      (λ (r : Memᴰ x ys). or_right (test y) (some test ys) (some_passes ys x r e))
      (mathlib.Core.List.Memᴰ.cases_cons m)

  -- the elements that pass are of the list, and pass
  pub only_of : (xs : List A) (x : A) → Memᴰ x (only test xs) → Memᴰ x xs × (test x ≡ true)
  unfolding only
  only_of [] x m = absurd (mathlib.Core.List.Memᴰ.not-nil m)
  only_of (y ∷ ys) x m = by (λ at. let r = only_of ys x at in (mathlib.Core.List.Memᴰ.tail r.0, r.1)) (test y) refl m
    where
      by : (Memᴰ x (only test ys) → Memᴰ x (y ∷ ys) × (test x ≡ true)) → (b : Bool) → test y ≡ b
          → Memᴰ x (cond b (y ∷ only test ys) (only test ys)) → Memᴰ x (y ∷ ys) × (test x ≡ true)
      by later true e at = ⊎_elim (λ (q : x ≡ y). (mathlib.Core.List.Memᴰ.head q, ap test q ∙ e)) later (mathlib.Core.List.Memᴰ.cases_cons at)
      by later false e at = later at

  -- and all that do are there
  pub only_in : (xs : List A) (x : A) → Memᴰ x xs → test x ≡ true → Memᴰ x (only test xs)
  unfolding only
  only_in [] x m e = m
  only_in (y ∷ ys) x m e = by (λ at. only_in ys x at e) (test y) refl (mathlib.Core.List.Memᴰ.cases_cons m)
    where
      by : (Memᴰ x ys → Memᴰ x (only test ys)) → (b : Bool) → test y ≡ b → (x ≡ y) ⊎ Memᴰ x ys → Memᴰ x (cond b (y ∷ only test ys) (only test ys))
      by later true q (inl at) = mathlib.Core.List.Memᴰ.head at
      by later true q (inr at) = mathlib.Core.List.Memᴰ.tail (later at)
      by later false q (inl at) = false_true (sym q ∙ sym (ap test at) ∙ e)
      by later false q (inr at) = later at

-- Rule 3 with a matrix of joined pairs in place of labels: for the nodes of a group whose transistors are all looked at, the matrix says
-- which pairs are joined, and the transistors that it keeps are the kept ones.
use mathlib.Core.Path.{◌≡◌, refl, sym, ◌∙◌, ap, subst, subst₂}
use mathlib.Core.Logic.{◌⊎◌, inl, inr, ⊎_elim}
use mathlib.Core.Bool.{Bool, true, false, not, ◌&&◌, ◌||◌, cond, and-true, and-false, or-false}
use mathlib.Core.List.{List, [], ◌∷◌, Memᴰ}
use Prim.Native.Nat.{ℕ, zero, suc, ◌+◌, ◌≤◌, ◌<◌}
use native.Mathlib.Omega.{arith}
use lib.ListN.{length, get_or}
use lib.Dec.{eqb}
use borrow.Author.Tests.{eqb-true, eq-eqb, ne_eqb}
use Rattle.lists.proofs.Cases.{bool_cases, and_left, and_right, and_both, or_cases, or_left, or_right, true_false, bool_ext}
use Rattle.format.specs.declared.Transistor.{Transistor}
use Rattle.format.specs.Circuit.{Circuit, no_transistor}
use Rattle.format.proofs.Legal.{LegalTransistor, LegalCell}
use Rattle.rules.specs.State.{State, node_numbers, is_inner}
use Rattle.rules.specs.Label.{Labels, joined, join, between_inner, some}
use Rattle.rules.specs.Group.{groups, in_group, of_group}
use Rattle.rules.specs.Matrix.{is_kept, transistor_at, Matrix, identity, linked, holds, after_held, matrix_at, is_held}
use Rattle.rules.specs.Kept.{Channel, conducts, keeps, after_kept, kept_from, kept}
use Rattle.rules.proofs.State.{up_length}
use Rattle.rules.proofs.Label.{IsNode, Joined, Through, join_exactly, joined_alike, joined_sym, joined_refl, first_joined, ends_inner, length_join, all_legal, groups_join, linked_same, linked_over}

not_passed : (x : Bool) → (x ≡ true → ⊥) → x ≡ false
not_passed true h = absurd (h refl)
not_passed false h = refl

-- what the join of two labels is, as a test
join_test : (ls : Labels) (a b x y : ℕ) → IsNode (length ls) x → IsNode (length ls) y → joined (join ls a b) x y ≡ linked true a b (joined ls) x y
join_test ls a b x y hx hy = bool_ext (joined (join ls a b) x y) (linked true a b (joined ls) x y) there back
  where
    there : joined (join ls a b) x y ≡ true → linked true a b (joined ls) x y ≡ true
    there e =
        ⊎_elim
        (λ (p : Joined ls x y). or_left (joined ls x y) _ p)
        (λ (q : (Joined ls x a × Joined ls y b) ⊎ (Joined ls x b × Joined ls y a)).
        or_right (joined ls x y) _
        (⊎_elim
        (λ (p : Joined ls x a × Joined ls y b). or_left (joined ls x a && joined ls b y) _ (and_both (joined ls x a) (joined ls b y) p.0 (joined_sym ls y b p.1)))
        (λ (p : Joined ls x b × Joined ls y a). or_right (joined ls x a && joined ls b y) _ (and_both (joined ls x b) (joined ls a y) p.0 (joined_sym ls y a p.1)))
        q))
        ((join_exactly ls a b x y hx hy).0 e)

    ways : (joined ls x y ≡ true) ⊎ ((joined ls x a && joined ls b y) || (joined ls x b && joined ls a y) ≡ true) → Through (Joined ls) a b x y
    ways (inl p) = inl p
    ways (inr q) =
        inr (⊎_elim
        (λ (p : joined ls x a && joined ls b y ≡ true). inl (and_left (joined ls x a) _ p, joined_sym ls b y (and_right (joined ls x a) _ p)))
        (λ (p : joined ls x b && joined ls a y ≡ true). inr (and_left (joined ls x b) _ p, joined_sym ls a y (and_right (joined ls x b) _ p)))
        (or_cases (joined ls x a && joined ls b y) (joined ls x b && joined ls a y) q))

    back : linked true a b (joined ls) x y ≡ true → joined (join ls a b) x y ≡ true
    back e = (join_exactly ls a b x y hx hy).1 (ways (or_cases (joined ls x y) _ e))

-- The matrix agrees with the labels in the rows and columns of some nodes, and the labels join none of them to another.
record Agrees (nodes : ℕ) (member : ℕ → Bool) (ls : Labels) (j : Matrix) : Type 0 where
  size : length ls ≡ nodes
  row : (x y : ℕ) → IsNode nodes x → IsNode nodes y → member x ≡ true → j x y ≡ joined ls x y
  column : (x y : ℕ) → IsNode nodes x → IsNode nodes y → member y ≡ true → j x y ≡ joined ls x y
  closed : (x y : ℕ) → IsNode nodes x → IsNode nodes y → member x ≡ true → Joined ls x y → member y ≡ true

-- nothing is linked where neither row, or neither column, leads to an end
no_row : (k v p q r s : Bool) → p ≡ false → r ≡ false → v || (k && ((p && q) || (r && s))) ≡ v
no_row k v p q r s e f = rw (e, f, and-false k, or-false v)

no_column : (k v p q r s : Bool) → q ≡ false → s ≡ false → v || (k && ((p && q) || (r && s))) ≡ v
no_column k v p q r s e f = rw (e, f, and-false p, and-false r, and-false k, or-false v)

unlinked : (v w : Bool) → v || (false && w) ≡ v
unlinked v w = or-false v

and_fails : (x y : Bool) → y ≡ false → x && y ≡ false
and_fails x y e = rw e (and-false x)

same_driven : (v looked between p q : Bool) → between ≡ false → looked ≡ true → ((v && looked) && not (between && p)) ≡ (v && not (between && q))
same_driven v looked between p q e f = rw (e, f) (ap (λ (w : Bool). w && true) (and-true v))

-- a transistor that is not kept changes nothing
still : {nodes : ℕ} {member : ℕ → Bool} {ls : Labels} {j : Matrix} → Agrees nodes member ls j → Agrees nodes member ls (linked false 0 0 j)
still {nodes} {member} {ls} {j} g = record {
  size = g.size;
  row = λ x y hx hy m. unlinked (j x y) true ∙ g.row x y hx hy m;
  column = λ x y hx hy m. unlinked (j x y) true ∙ g.column x y hx hy m;
  closed = g.closed;
}

module _ (c : Circuit) (s : State) (nodes : ℕ) (member : ℕ → Bool) (ls : Labels) (j : Matrix) (g : Agrees nodes member ls j) (looked : Bool) (t : Transistor) (h : LegalTransistor nodes t) where
  -- a driven end: nothing is joined
  step_driven : between_inner c t ≡ false → Agrees nodes member (after_kept c s ls t) (after_held c s looked j t)
  step_driven e =
      subst₂ (λ (k l : Bool). Agrees nodes member (cond k (join ls t.first t.second) ls) (linked l t.first t.second j))
      (sym (and_fails (keeps c s ls t) (between_inner c t) e))
      (sym (and_fails (holds c s looked j t) (between_inner c t) e))
      (still g)

  module _ (e : between_inner c t ≡ true) where
    ends : IsNode nodes t.first × IsNode nodes t.second
    ends = ends_inner c nodes t h e

    module _ (ma : member t.first ≡ true) (mb : member t.second ≡ true) (seen : looked ≡ true) where
      same_keeps : holds c s looked j t ≡ keeps c s ls t
      same_keeps = rw (seen, and-true (conducts s t), g.row t.first t.second ends.0 ends.1 ma)

      -- the matrix and the labels join the same nodes
      same_linked : (x y : ℕ) → IsNode nodes x → IsNode nodes y → j x y ≡ joined ls x y → linked true t.first t.second j x y ≡ joined (join ls t.first t.second) x y
      same_linked x y hx hy q =
          let size : length ls ≡ nodes = g.size in
          rw (q, g.column x t.first hx ends.0 ma, g.row t.second y ends.1 hy mb, g.column x t.second hx ends.1 mb, g.row t.first y ends.0 hy ma)
          (sym (join_test ls t.first t.second x y (omega arith) (omega arith)))

      same_closed : (x y : ℕ) → IsNode nodes x → IsNode nodes y → member x ≡ true → Joined (join ls t.first t.second) x y → member y ≡ true
      same_closed x y hx hy m q =
          let size : length ls ≡ nodes = g.size in
          ⊎_elim
          (λ (p : Joined ls x y). g.closed x y hx hy m p)
          (λ (r : (Joined ls x t.first × Joined ls y t.second) ⊎ (Joined ls x t.second × Joined ls y t.first)).
          ⊎_elim
          (λ (p : Joined ls x t.first × Joined ls y t.second). g.closed t.second y ends.1 hy mb (joined_sym ls y t.second p.1))
          (λ (p : Joined ls x t.second × Joined ls y t.first). g.closed t.first y ends.0 hy ma (joined_sym ls y t.first p.1))
          r)
          ((join_exactly ls t.first t.second x y (omega arith) (omega arith)).0 q)

      step_members : Agrees nodes member (after_kept c s ls t) (after_held c s looked j t)
      step_members =
          subst (λ (l : Bool). Agrees nodes member (after_kept c s ls t) (linked (l && between_inner c t) t.first t.second j)) (sym same_keeps)
          (by (keeps c s ls t && between_inner c t))
        where
          by : (k : Bool) → Agrees nodes member (cond k (join ls t.first t.second) ls) (linked k t.first t.second j)
          by true = record {
            size = length_join ls t.first t.second ∙ g.size;
            row = λ x y hx hy m. same_linked x y hx hy (g.row x y hx hy m);
            column = λ x y hx hy m. same_linked x y hx hy (g.column x y hx hy m);
            closed = same_closed;
          }
          by false = still g

    module _ (na : member t.first ≡ false) (nb : member t.second ≡ false) where
      -- none of the nodes is joined to an end that is not one of them
      none : (x z : ℕ) → IsNode nodes x → IsNode nodes z → member x ≡ true → member z ≡ false → joined ls x z ≡ false
      none x z hx hz m n = not_passed (joined ls x z) (λ q. true_false (member z) (g.closed x z hx hz m q) n)

      none_back : (x z : ℕ) → IsNode nodes x → IsNode nodes z → member x ≡ true → member z ≡ false → joined ls z x ≡ false
      none_back x z hx hz m n = not_passed (joined ls z x) (λ q. true_false (member z) (g.closed x z hx hz m (joined_sym ls z x q)) n)

      row_stays : (k : Bool) (x y : ℕ) → IsNode nodes x → IsNode nodes y → member x ≡ true → linked k t.first t.second j x y ≡ j x y
      row_stays k x y hx hy m =
          no_row k (j x y) (j x t.first) (j t.second y) (j x t.second) (j t.first y)
          (g.row x t.first hx ends.0 m ∙ none x t.first hx ends.0 m na)
          (g.row x t.second hx ends.1 m ∙ none x t.second hx ends.1 m nb)

      column_stays : (k : Bool) (x y : ℕ) → IsNode nodes x → IsNode nodes y → member y ≡ true → linked k t.first t.second j x y ≡ j x y
      column_stays k x y hx hy m =
          no_column k (j x y) (j x t.first) (j t.second y) (j x t.second) (j t.first y)
          (g.column t.second y ends.1 hy m ∙ none_back y t.second hy ends.1 m nb)
          (g.column t.first y ends.0 hy m ∙ none_back y t.first hy ends.0 m na)

      labels_row : (x y : ℕ) → IsNode nodes x → IsNode nodes y → member x ≡ true → joined (join ls t.first t.second) x y ≡ joined ls x y
      labels_row x y hx hy m =
          let size : length ls ≡ nodes = g.size in
          join_test ls t.first t.second x y (omega arith) (omega arith)
          ∙ no_row true (joined ls x y) (joined ls x t.first) (joined ls t.second y) (joined ls x t.second) (joined ls t.first y) (none x t.first hx ends.0 m na) (none x t.second hx ends.1 m nb)

      labels_column : (x y : ℕ) → IsNode nodes x → IsNode nodes y → member y ≡ true → joined (join ls t.first t.second) x y ≡ joined ls x y
      labels_column x y hx hy m =
          let size : length ls ≡ nodes = g.size in
          join_test ls t.first t.second x y (omega arith) (omega arith)
          ∙ no_column true (joined ls x y) (joined ls x t.first) (joined ls t.second y) (joined ls x t.second) (joined ls t.first y) (none_back y t.second hy ends.1 m nb) (none_back y t.first hy ends.0 m na)

      step_others : Agrees nodes member (after_kept c s ls t) (after_held c s looked j t)
      step_others = by (keeps c s ls t && between_inner c t) (holds c s looked j t && between_inner c t)
        where
          by : (k l : Bool) → Agrees nodes member (cond k (join ls t.first t.second) ls) (linked l t.first t.second j)
          by true l = record {
            size = length_join ls t.first t.second ∙ g.size;
            row = λ x y hx hy m. row_stays l x y hx hy m ∙ g.row x y hx hy m ∙ sym (labels_row x y hx hy m);
            column = λ x y hx hy m. column_stays l x y hx hy m ∙ g.column x y hx hy m ∙ sym (labels_column x y hx hy m);
            closed = λ x y hx hy m q. g.closed x y hx hy m (sym (labels_row x y hx hy m) ∙ q);
          }
          by false l = record {
            size = g.size;
            row = λ x y hx hy m. row_stays l x y hx hy m ∙ g.row x y hx hy m;
            column = λ x y hx hy m. column_stays l x y hx hy m ∙ g.column x y hx hy m;
            closed = g.closed;
          }

  -- one transistor: its ends are both among the nodes, and it is looked at, or neither is
  step_agrees : (between_inner c t ≡ true → member t.first ≡ member t.second) → (between_inner c t ≡ true → member t.first ≡ true → looked ≡ true) → Agrees nodes member (after_kept c s ls t) (after_held c s looked j t)
  step_agrees together seen =
      ⊎_elim
      (λ (e : between_inner c t ≡ true).
      ⊎_elim
      (λ (m : member t.first ≡ true). step_members e m (sym (together e) ∙ m) (seen e m))
      (λ (m : member t.first ≡ false). step_others e m (sym (together e) ∙ m))
      (bool_cases (member t.first)))
      step_driven
      (bool_cases (between_inner c t))

-- the labels after the first i transistors of a list
unfoldable pub labels_from : Circuit → State → Labels → List Transistor → ℕ → Labels
labels_from c s ls ts zero = ls
labels_from c s ls ts (suc i) = after_kept c s (labels_from c s ls ts i) (get_or ts i no_transistor)

-- the first transistor taken off
labels_shift : (c : Circuit) (s : State) (ls : Labels) (t : Transistor) (ts : List Transistor) (i : ℕ) → labels_from c s ls (t ∷ ts) (suc i) ≡ labels_from c s (after_kept c s ls t) ts i
unfolding labels_from
labels_shift c s ls t ts zero = refl
labels_shift c s ls t ts (suc i) = ap (λ (m : Labels). after_kept c s m (get_or ts i no_transistor)) (labels_shift c s ls t ts i)

-- a channel of number i among some
abbrev numbered : ℕ → List Channel → Bool
numbered i ks = some (λ (k : Channel). eqb k.number i) ks

some_cond : (i j : ℕ) (t : Transistor) (b : Bool) (ks : List Channel) → numbered i (cond b (record { number = j; transistor = t } ∷ ks) ks) ≡ (b && eqb j i) || numbered i ks
unfolding some
some_cond i j t true ks = refl
some_cond i j t false ks = refl

-- the channels from number j on have no smaller number
later_only : (c : Circuit) (s : State) (ts : List Transistor) (ls : Labels) (i j : ℕ) → i < j → numbered i (kept_from c s ls j ts) ≡ false
unfolding kept_from some
later_only c s [] ls i j h = refl
later_only c s (t ∷ ts) ls i j h =
    some_cond i j t (keeps c s ls t) (kept_from c s (after_kept c s ls t) (suc j) ts)
    ∙ rw (ne_eqb j i (λ e. omega arith), later_only c s ts (after_kept c s ls t) i (suc j) (omega arith), and-false (keeps c s ls t))

-- of the channels from number j on, the one at place i is there exactly if its transistor is kept by the labels before it
kept_at : (c : Circuit) (s : State) (ts : List Transistor) (ls : Labels) (i j : ℕ) → i < length ts → numbered (j + i) (kept_from c s ls j ts) ≡ keeps c s (labels_from c s ls ts i) (get_or ts i no_transistor)
unfolding kept_from labels_from
kept_at c s [] ls i j h = absurd (omega arith)
kept_at c s (t ∷ ts) ls zero j h =
    let same : j + 0 ≡ j = omega arith in
    rw same (some_cond j j t (keeps c s ls t) (kept_from c s (after_kept c s ls t) (suc j) ts)
    ∙ rw (eq-eqb j j refl, later_only c s ts (after_kept c s ls t) j (suc j) (omega arith), and-true (keeps c s ls t), or-false (keeps c s ls t)))
kept_at c s (t ∷ ts) ls (suc i) j h =
    let next : j + suc i ≡ suc j + i = omega arith in
    some_cond (j + suc i) j t (keeps c s ls t) (kept_from c s (after_kept c s ls t) (suc j) ts)
    ∙ rw (ne_eqb j (j + suc i) (λ e. omega arith), and-false (keeps c s ls t), next)
    (kept_at c s ts (after_kept c s ls t) i (suc j) (omega arith)
    ∙ ap (λ (m : Labels). keeps c s m (get_or ts i no_transistor)) (sym (labels_shift c s ls t ts i)))

-- the labels before transistor i, in a cell's order
abbrev pub labels_at : Circuit → State → ℕ → Labels
labels_at c s i = labels_from c s (node_numbers c) c.transistors i

-- transistor i is kept exactly if the labels before it keep it
pub kept_by_labels : (c : Circuit) (s : State) (i : ℕ) → i < length c.transistors → is_kept c s i ≡ keeps c s (labels_at c s i) (transistor_at c i)
unfolding is_kept kept
kept_by_labels c s i h =
    let same : 0 + i ≡ i = omega arith in
    rw same at (kept_at c s c.transistors (node_numbers c) i 0 h)

module _ (c : Circuit) (l : LegalCell c) (s : State) (looked member : ℕ → Bool)
    (together : (i : ℕ) → i < length c.transistors → between_inner c (transistor_at c i) ≡ true → member (transistor_at c i).first ≡ member (transistor_at c i).second)
    (seen : (i : ℕ) → i < length c.transistors → between_inner c (transistor_at c i) ≡ true → member (transistor_at c i).first ≡ true → looked i ≡ true) where
  first_agrees : Agrees (length c.nodes) member (node_numbers c) identity
  first_agrees = record { size = up_length (length c.nodes) 2; row = λ x y hx hy m. same x y hx hy; column = λ x y hx hy m. same x y hx hy; closed = λ x y hx hy m e. subst (λ (z : ℕ). member z ≡ true) (first_joined c x y hx hy e) m }
    where
      same : (x y : ℕ) → IsNode (length c.nodes) x → IsNode (length c.nodes) y → eqb x y ≡ joined (node_numbers c) x y
      same x y hx hy =
          bool_ext (eqb x y) (joined (node_numbers c) x y)
          (λ e. subst (λ (z : ℕ). Joined (node_numbers c) x z) (eqb-true x y e) (joined_refl (node_numbers c) x))
          (λ e. eq-eqb x y (first_joined c x y hx hy e))

  -- after each transistor the matrix agrees with the labels
  agrees : (i : ℕ) → i ≤ length c.transistors → Agrees (length c.nodes) member (labels_at c s i) (matrix_at c s looked i)
  unfolding labels_from matrix_at
  agrees zero h = first_agrees
  agrees (suc i) h = step_agrees c s (length c.nodes) member (labels_at c s i) (matrix_at c s looked i) (agrees i (omega arith)) (looked i) (transistor_at c i) (l.transistor i (omega arith)) (together i (omega arith)) (seen i (omega arith))

  -- a transistor that is looked at, with an end among the nodes if both are inner, is kept by the matrix exactly if it is kept
  held : (i : ℕ) → i < length c.transistors → looked i ≡ true → (between_inner c (transistor_at c i) ≡ true → member (transistor_at c i).first ≡ true) → is_held c s looked i ≡ is_kept c s i
  held i h e m = by_ends ∙ sym (kept_by_labels c s i h)
    where
      by_ends : is_held c s looked i ≡ keeps c s (labels_at c s i) (transistor_at c i)
      by_ends =
          ⊎_elim
          (λ (b : between_inner c (transistor_at c i) ≡ true).
          same_keeps c s (length c.nodes) member (labels_at c s i) (matrix_at c s looked i) (agrees i (omega arith)) (looked i) (transistor_at c i) (l.transistor i h) b (m b) (sym (together i h b) ∙ m b) e)
          (λ (b : between_inner c (transistor_at c i) ≡ false).
          same_driven (conducts s (transistor_at c i)) (looked i) (between_inner c (transistor_at c i)) _ _ b e)
          (bool_cases (between_inner c (transistor_at c i)))

-- where every transistor is looked at, the matrix says which nodes are joined
pub matrix_joined : (c : Circuit) (l : LegalCell c) (s : State) (i : ℕ) → i ≤ length c.transistors → (x y : ℕ) → IsNode (length c.nodes) x → IsNode (length c.nodes) y → matrix_at c s (λ k. true) i x y ≡ joined (labels_at c s i) x y
matrix_joined c l s i h x y hx hy = (agrees c l s (λ k. true) (λ z. true) (λ k g b. refl) (λ k g b m. refl) i h).row x y hx hy refl

-- and keeps exactly the kept ones
pub matrix_kept : (c : Circuit) (l : LegalCell c) (s : State) (i : ℕ) → i < length c.transistors → is_held c s (λ k. true) i ≡ is_kept c s i
matrix_kept c l s i h = held c l s (λ k. true) (λ z. true) (λ k g b. refl) (λ k g b m. refl) i h refl (λ b. refl)

-- what stands at a place of a list is one of it
pub at_member : {A : Type 0} (xs : List A) (d : A) (i : ℕ) → i < length xs → Memᴰ (get_or xs i d) xs
at_member [] d i h = absurd (omega arith)
at_member (x ∷ xs) d zero h = Memᴰ.head refl
at_member (x ∷ xs) d (suc i) h = Memᴰ.tail (at_member xs d i (omega arith))

-- the transistors of n's group are all looked at
abbrev pub LookedAt : Circuit → (ℕ → Bool) → ℕ → Type 0
LookedAt c looked n = (i : ℕ) → i < length c.transistors → of_group c n (transistor_at c i) ≡ true → looked i ≡ true

module _ (c : Circuit) (l : LegalCell c) (n : ℕ) where
  -- a channel between inner nodes has both ends in the group or none
  pub group_together : (i : ℕ) → i < length c.transistors → between_inner c (transistor_at c i) ≡ true → in_group c n (transistor_at c i).first ≡ in_group c n (transistor_at c i).second
  group_together i h e =
      let t : Transistor = transistor_at c i in
      let one : Joined (groups c) t.first t.second = groups_join c (all_legal l) t.first t.second (linked_over (record { transistor = t; listed = at_member c.transistors no_transistor i h; inner = e; ends = inl (refl, refl) }) (linked_same refl)) in
      rw (and_left (is_inner c t.first) (is_inner c t.second) e, and_right (is_inner c t.first) (is_inner c t.second) e, joined_alike (groups c) t.first t.second one)

  -- Where a group's transistors are all looked at, the matrix keeps exactly those of them that are kept, whatever it does with the others.
  pub group_kept : (s : State) (looked : ℕ → Bool) → LookedAt c looked n → (i : ℕ) → i < length c.transistors → of_group c n (transistor_at c i) ≡ true → is_held c s looked i ≡ is_kept c s i
  group_kept s looked seen i h o =
      held c l s looked (in_group c n) group_together (λ k g b m. seen k g (or_left (in_group c n (transistor_at c k).first) _ m)) i h (seen i h o)
      (λ b. ⊎_elim (λ m. m) (λ m. group_together i h b ∙ m) (or_cases (in_group c n (transistor_at c i).first) (in_group c n (transistor_at c i).second) o))

-- Labels of nodes: joining, and the pieces into which the channels of a list part the inner nodes.
use Rattle.std.specs.Prelude.{ℕ, ◌-◌, List, [], ◌∷◌, map, Bool, false, ◌&&◌, ◌||◌, cond, get_or, eqb}
use Rattle.format.specs.declared.Transistor.{Transistor}
use Rattle.format.specs.Circuit.{Circuit, first_node_number}
use Rattle.rules.specs.State.{is_inner, node_numbers}

-- Labels of the node records, in order: nodes that are joined have one label. At first each node's label is its number.
abbrev pub Labels : Type 0
Labels = List ℕ

abbrev pub label_at : Labels → ℕ → ℕ
label_at ls n = get_or ls (n - first_node_number) n

abbrev pub joined : Labels → ℕ → ℕ → Bool
joined ls a b = eqb (label_at ls a) (label_at ls b)

-- a and b joined, with all that was joined to either
abbrev pub join : Labels → ℕ → ℕ → Labels
join ls a b = map (λ (l : ℕ). cond (eqb l (label_at ls b)) (label_at ls a) l) ls

-- a channel between two inner nodes
abbrev pub between_inner : Circuit → Transistor → Bool
between_inner c t = is_inner c t.first && is_inner c t.second

-- inner nodes linked by the channels of a list
unfoldable pub link_from : Circuit → Labels → List Transistor → Labels
link_from c ls [] = ls
link_from c ls (t ∷ ts) = link_from c (cond (between_inner c t) (join ls t.first t.second) ls) ts

-- the pieces into which the channels of a list part the inner nodes
abbrev pub pieces : Circuit → List Transistor → Labels
pieces c ts = link_from c (node_numbers c) ts

-- m is an inner node of n's piece
abbrev pub in_piece : Circuit → Labels → ℕ → ℕ → Bool
in_piece c ls n m = is_inner c m && joined ls n m

-- a channel end of t is in n's piece
abbrev pub of_piece : Circuit → Labels → ℕ → Transistor → Bool
of_piece c ls n t = in_piece c ls n t.first || in_piece c ls n t.second

-- some element passes a test
unfoldable pub some : {A : Type 0} → (A → Bool) → List A → Bool
some test [] = false
some test (x ∷ xs) = test x || some test xs

-- the elements that pass a test
unfoldable pub only : {A : Type 0} → (A → Bool) → List A → List A
only test [] = []
only test (x ∷ xs) = cond (test x) (x ∷ only test xs) (only test xs)

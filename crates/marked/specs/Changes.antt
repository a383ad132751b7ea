-- The next changes of all nodes, by entries of the lent table: values before and after T and pending changes, by node number.
use Rattle.std.specs.Prelude.{◌≡◌, List, [], ◌∷◌, ◌++◌, Bool, cond, ℕ, ◌<◌, ◌≤◌, length, get_or}
use Rattle.lists.specs.Padded.{padded}
use Rattle.format.specs.Circuit.{Circuit}
use Rattle.diagram.specs.Pattern.{patterns}
use Rattle.diagram.specs.Table.{Table, never, number_at}
use Rattle.rules.specs.State.{is_inner}
use Rattle.net.specs.Roots.{roots_length}
use Rattle.attempt.specs.Change.{change_by}

-- the entries by which a node with a pending change is evaluated
abbrev pub entries_with : List ℕ → List ℕ → ℕ → List ℕ
entries_with before after change = padded roots_length 0 (before ++ after ++ change ∷ [])

-- those of node n
abbrev pub entries_for : List ℕ → List ℕ → List ℕ → ℕ → List ℕ
entries_for before after pending n = entries_with before after (get_or pending n 0)

-- the next change of node n at a pattern by some entries: an input has none
abbrev pub change_with : Circuit → ℕ → Bool → ℕ → Table → List ℕ → ℕ → ℕ → ℕ
change_with c time all letters t entries n p = cond (is_inner c n) (change_by c time all n letters t entries p) never

-- and by the entries for it
abbrev pub change_of : Circuit → ℕ → Bool → ℕ → Table → List ℕ → List ℕ → List ℕ → ℕ → ℕ → ℕ
change_of c time all letters t before after pending n p = change_with c time all letters t (entries_for before after pending n) n p

-- 26 entries of the table; the rails' are their terminals, and all are bits
pub record ValueEntries (letters : ℕ) (t : Table) (used : ℕ) (entries : List ℕ) : Type 0 where
  pub long : length entries ≡ 26
  pub within : (j : ℕ) → j < 26 → get_or entries j 0 < used
  pub ground : get_or entries 0 0 ≡ 0
  pub supply : get_or entries 1 0 ≡ 1
  pub bits : (j p : ℕ) → j < 26 → p < patterns letters → number_at letters t (get_or entries j 0) p ≤ 1

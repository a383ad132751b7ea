-- Several entries of the working table at once: a row of them, and the matrix of the joined-functions.
use Rattle.std.specs.Prelude.{List, [], ◌&&◌, cond, ℕ, ◌<◌, get_or, eqb}
use Rattle.diagram.specs.Table.{Table}
use Rattle.diagram.specs.Held.{held}
use Rattle.diagram.specs.Extends.{Extends}
use Rattle.functions.specs.Open.{Open}
use Rattle.functions.specs.Known.{Means}

-- the first entries of a list are all used ones
abbrev pub AllUsed : ℕ → List ℕ → ℕ → Type 0
AllUsed size entries used = (m : ℕ) → m < size → get_or entries m 0 < used

-- the columns hold a sound extension of a table, in which the first entries of a list have the numbers of functions
pub record Filled (size letters : ℕ) (t : Table) (f : ℕ → ℕ → ℕ) (l w h ix : List ℕ) (used : ℕ) (entries : List ℕ) : Type 0 where
  pub opened : Open letters l w h ix used
  pub extends : Extends t (held l w h used)
  pub means : (m : ℕ) → m < size → Means letters (held l w h used) (get_or entries m 0) (f m)

-- the entry of two nodes in a matrix
abbrev pub cell : List (List ℕ) → ℕ → ℕ → ℕ
cell joined x y = get_or (get_or joined x []) y 0

-- the same as `Filled` for the cells of a matrix
pub record Matrixed (letters : ℕ) (t : Table) (f : ℕ → ℕ → ℕ → ℕ) (l w h ix : List ℕ) (used : ℕ) (joined : List (List ℕ)) : Type 0 where
  pub opened : Open letters l w h ix used
  pub extends : Extends t (held l w h used)
  pub means : (x y : ℕ) → x < 24 → y < 24 → Means letters (held l w h used) (cell joined x y) (f x y)

-- a number; 1 where two others are 1
abbrev pub also : ℕ → ℕ → ℕ → ℕ
also z a b = cond (eqb a 1 && eqb b 1) 1 z

-- x and y joined after a transistor between a and b: as before, or where it is kept and x was joined with one end and y with the other
abbrev pub linked_number : (kept xy xa by xb ay : ℕ) → ℕ
linked_number kept xy xa by xb ay = also (also xy (cond (eqb kept 1) xb 0) ay) (cond (eqb kept 1) xa 0) by

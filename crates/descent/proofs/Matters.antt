-- Which roots matter to a piece, place by place.
use mathlib.Core.Path.{◌≡◌}
use mathlib.Core.List.{List}
use mathlib.Core.Bool.{true, cond}
use Prim.Native.Nat.{ℕ, ◌-◌, ◌<◌, ◌≤◌}
use native.Mathlib.Omega.{arith}
use lib.Dec.{eqb}
use borrow.Author.Tests.{lt-ltb, le-ltb}
use Rattle.net.specs.Roots.{leaf_length, seeds_place, pending_place}
use Rattle.descent.specs.Piece.{is_in, is_near, is_touching, matters}

module _ (net marks : List ℕ) (sole : ℕ) where
  -- a rail
  pub matters_rail : (j : ℕ) → j < 2 → matters net marks sole j ≡ true
  unfolding matters
  matters_rail j h = rw (lt-ltb j 26 (omega arith), lt-ltb j 2 h)

  -- a node that is marked
  pub matters_node : (j : ℕ) → 2 ≤ j → j < 26 → matters net marks sole j ≡ is_near marks j
  unfolding matters
  matters_node j l h = rw (lt-ltb j 26 h, le-ltb j 2 l)

  -- a transistor that touches the piece
  pub matters_arm : (j : ℕ) → 26 ≤ j → j < leaf_length → matters net marks sole j ≡ is_touching net marks (j - 26)
  unfolding matters
  matters_arm j l h = rw (le-ltb j 26 l, lt-ltb j leaf_length h)

  -- a seed in the piece
  pub matters_seed : (j : ℕ) → leaf_length ≤ j → j < pending_place → matters net marks sole j ≡ cond (eqb sole 0) (is_in marks (j - seeds_place)) (eqb (j - seeds_place) sole)
  unfolding matters
  matters_seed j l h = rw (le-ltb j 26 (omega arith), le-ltb j leaf_length l, lt-ltb j pending_place h)

  -- pending
  pub matters_late : (j : ℕ) → pending_place ≤ j → matters net marks sole j ≡ true
  unfolding matters
  matters_late j h = rw (le-ltb j 26 (omega arith), le-ltb j leaf_length (omega arith), le-ltb j pending_place h)

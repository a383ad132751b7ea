-- The arms that a cell lists for a node: which they are, where they stand, and that they are transistors with an end at the node.
use mathlib.Core.Path.{◌≡◌, refl, ◌∙◌}
use mathlib.Core.Bool.{Bool, true, false, ◌||◌, cond}
use mathlib.Core.List.{List, [], ◌∷◌}
use Prim.Native.Nat.{ℕ, zero, suc, ◌+◌, ◌-◌, ◌*◌, ◌≤◌, ◌<◌}
use native.Mathlib.Omega.{arith}
use lib.ListN.{length, get_or, drop, length-drop}
use lib.Seq.{get_or-take, get_or-drop, length-take-le}
use lib.Dec.{eqb}
use Rattle.format.specs.declared.Transistor.{Transistor}
use Rattle.format.specs.Circuit.{no_transistor}
use Rattle.net.specs.Net.{nodes_place, transistors_place, degree_place, arms_place, at, net_circuit, arms_from, arms_of, net_arms}
use Rattle.net.specs.Laid.{Laid}
use Rattle.net.proofs.Laying.{transistors_length}

-- an arm's number is that of a transistor
from_within : (n i : ℕ) (ts : List Transistor) (k : ℕ) → k < length (arms_from n i ts) → get_or (arms_from n i ts) k 0 < i + length ts
unfolding arms_from
from_within n i [] k h = absurd (omega arith)
from_within n i (t ∷ ts) k h = by (eqb t.first n || eqb t.second n) k h (λ j l. from_within n (suc i) ts j l)
  where
    by : (b : Bool) (k : ℕ) → k < length (cond b (i ∷ arms_from n (suc i) ts) (arms_from n (suc i) ts))
        → ((j : ℕ) → j < length (arms_from n (suc i) ts) → get_or (arms_from n (suc i) ts) j 0 < suc i + length ts)
        → get_or (cond b (i ∷ arms_from n (suc i) ts) (arms_from n (suc i) ts)) k 0 < i + suc (length ts)
    by true zero l below = omega arith
    by true (suc k) l below = omega (arith, below k (omega arith))
    by false k l below = omega (arith, below k l)

-- a transistor at a node is one of the node's arms
pub arms_has : (x i : ℕ) (ts : List Transistor) (j : ℕ) → j < length ts → eqb (get_or ts j no_transistor).first x || eqb (get_or ts j no_transistor).second x ≡ true
    → (k : ℕ) × (k < length (arms_from x i ts)) × (get_or (arms_from x i ts) k 0 ≡ i + j)
unfolding arms_from
arms_has x i [] j h e = absurd (omega arith)
arms_has x i (t ∷ ts) zero h e = rw e (0, omega arith, omega arith)
arms_has x i (t ∷ ts) (suc j) h e = by (eqb t.first x || eqb t.second x) (arms_has x (suc i) ts j (omega arith) e)
  where
    by : (b : Bool) → (k : ℕ) × (k < length (arms_from x (suc i) ts)) × (get_or (arms_from x (suc i) ts) k 0 ≡ suc i + j)
        → (k : ℕ) × (k < length (cond b (i ∷ arms_from x (suc i) ts) (arms_from x (suc i) ts))) × (get_or (cond b (i ∷ arms_from x (suc i) ts) (arms_from x (suc i) ts)) k 0 ≡ i + suc j)
    by true r = (suc r.0, omega (arith, r.1), r.2 ∙ omega arith)
    by false r = (r.0, r.1, r.2 ∙ omega arith)

-- an arm of a node has it at an end
pub arms_end : (x i : ℕ) (ts : List Transistor) (k : ℕ) → k < length (arms_from x i ts)
    → let t : Transistor = get_or ts (get_or (arms_from x i ts) k 0 - i) no_transistor in (i ≤ get_or (arms_from x i ts) k 0) × (eqb t.first x || eqb t.second x ≡ true)
unfolding arms_from
arms_end x i [] k h = absurd (omega arith)
arms_end x i (t ∷ ts) k h = by (eqb t.first x || eqb t.second x) refl k h (λ j l. arms_end x (suc i) ts j l)
  where
    Ends : ℕ → Type 0
    Ends a = let u : Transistor = get_or (t ∷ ts) (a - i) no_transistor in (i ≤ a) × (eqb u.first x || eqb u.second x ≡ true)

    later : (a : ℕ) → (suc i ≤ a) × (eqb (get_or ts (a - suc i) no_transistor).first x || eqb (get_or ts (a - suc i) no_transistor).second x ≡ true) → Ends a
    later a r = let e : a - i ≡ suc (a - suc i) = omega (arith, r.0) in (omega (arith, r.0), rw e r.1)

    by : (b : Bool) → eqb t.first x || eqb t.second x ≡ b → (k : ℕ) → k < length (cond b (i ∷ arms_from x (suc i) ts) (arms_from x (suc i) ts))
        → ((j : ℕ) → j < length (arms_from x (suc i) ts)
        → (suc i ≤ get_or (arms_from x (suc i) ts) j 0) × (eqb (get_or ts (get_or (arms_from x (suc i) ts) j 0 - suc i) no_transistor).first x || eqb (get_or ts (get_or (arms_from x (suc i) ts) j 0 - suc i) no_transistor).second x ≡ true))
        → Ends (get_or (cond b (i ∷ arms_from x (suc i) ts) (arms_from x (suc i) ts)) k 0)
    by true e zero l below = let z : i - i ≡ 0 = omega arith in (omega arith, rw z e)
    by true e (suc k) l below = later _ (below k (omega arith))
    by false e k l below = later _ (below k l)

module _ (net : List ℕ) (h : Laid (net_circuit net) net) (n : ℕ) (l : n < 2 + at net nodes_place) where
  -- as many arms as it says
  pub arms_length : length (net_arms net n) ≡ at net (degree_place + n)
  arms_length =
      length-take-le (at net (degree_place + n)) (drop (arms_place + 64 * n) net)
      (omega (arith, length-drop (arms_place + 64 * n) net, h.long, h.within.nodes, h.degree n l))

  -- each at its place
  pub arms_at : (k : ℕ) → k < length (net_arms net n) → get_or (net_arms net n) k 0 ≡ at net (arms_place + 64 * n + k)
  arms_at k g =
      get_or-take (at net (degree_place + n)) (drop (arms_place + 64 * n) net) k 0 (omega (arith, arms_length))
      ∙ get_or-drop (arms_place + 64 * n) net k 0

  -- and a transistor
  pub arms_within : (k : ℕ) → k < length (net_arms net n) → get_or (net_arms net n) k 0 < at net transistors_place
  arms_within k g =
      let listed : k < length (arms_of (net_circuit net) n) = rw (h.arms n l) at g in
      rw (h.arms n l) (omega (arith, from_within n 0 (net_circuit net).transistors k listed, transistors_length net))

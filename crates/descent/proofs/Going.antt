-- The descent: roots without those that do not matter, terminals, and the halves at the least letter.
use mathlib.Core.Path.{◌≡◌, refl, sym, ◌∙◌, ap, subst}
use mathlib.Core.Logic.{⊎_elim}
use mathlib.Core.List.{List, map}
use mathlib.Core.Bool.{Bool, true, false, cond}
use Prim.Native.Nat.{ℕ, suc, ◌+◌, ◌-◌, ◌/◌, ◌^◌, ◌<◌, ◌≤◌}
use native.Mathlib.Omega.{arith}
use lib.ListN.{length, get_or, length-map}
use lib.Seq.{ext_get_or}
use lib.Dec.{eqb}
use lib.Pow.{pow_pos}
use Rattle.format.specs.Circuit.{Circuit}
use Rattle.lists.proofs.Map.{map_at}
use Rattle.diagram.specs.Pattern.{letter_at, with_letter}
use Rattle.diagram.specs.Table.{Entry, Table, terminal_letter, terminal, entry_at, part_of, number_at}
use Rattle.diagram.specs.Store.{add, both, store}
use Rattle.diagram.specs.Held.{held}
use Rattle.diagram.proofs.Sound.{Sound}
use Rattle.diagram.proofs.Number.{number_terminal, part_within, part_larger}
use Rattle.diagram.proofs.Pattern.{with_lt}
use Rattle.diagram.proofs.Values.{number_part}
use Rattle.diagram.proofs.Store.{store_ext, store_number}
use Rattle.diagram.proofs.Shannon as shannon
use Rattle.net.specs.Net.{net_circuit}
use Rattle.net.specs.Roots.{roots_length}
use Rattle.functions.specs.Open.{Legible, Operand}
use Rattle.functions.proofs.Carry.{legible_sound, legible_long, letter_at_lem, low_at, high_at, branch_letter, past_letter}
use Rattle.functions.proofs.Halving.{Halves}
use Rattle.descent.specs.Settle.{leaf_at, settled_at, settled_by, Roots, Calm, AllCalm}
use Rattle.descent.specs.Piece.{Narrowed}
use Rattle.descent.specs.Descend.{Inner, Entries, Least, HalfOf, NumbersOf, low_of, LeafOf, Settleable, Rooted}

-- a list of as many that a function of the roots makes
pub by_roots : (f : ℕ → ℕ) (roots out : List ℕ) → length roots ≡ roots_length → length out ≡ roots_length → ((j : ℕ) → j < roots_length → get_or out j 0 ≡ f (get_or roots j 0)) → out ≡ map f roots
by_roots f roots out lr lo is =
    ext_get_or 0 out (map f roots) (lo ∙ sym (length-map roots f ∙ lr)) (λ j h. is j (omega arith) ∙ sym (map_at f roots 0 0 j (omega arith)))

-- the numbers of roots that are terminals are their low parts
pub numbers_low : {low roots out : List ℕ} → length roots ≡ roots_length → NumbersOf low roots out → out ≡ low_of low roots
numbers_low {low} {roots} {out} lr h = by_roots (λ (e : ℕ). get_or low e 0) roots out lr h.long h.is

-- by which a node may be settled
pub leaf_settleable : {net low roots out : List ℕ} {n : ℕ} → LeafOf net n low roots → NumbersOf low roots out → Settleable net n out
leaf_settleable {net} {low} {roots} {out} {n} l h =
    let e : out ≡ low_of low roots = numbers_low l.entries.long h in
    record { node = l.node; long = h.long; calm = subst (Calm (net_circuit net)) (sym e) l.calm }

pub leaf_number : {net low roots out : List ℕ} {n : ℕ} (time v : ℕ) → LeafOf net n low roots → NumbersOf low roots out → v ≡ settled_at (net_circuit net) time n out → v ≡ settled_at (net_circuit net) time n (low_of low roots)
leaf_number {net} {low} {roots} {out} {n} time v l h e = e ∙ ap (settled_at (net_circuit net) time n) (numbers_low l.entries.long h)

-- the parts of any roots
pub half_of : (letter side roots : List ℕ) (m : ℕ) → length roots ≡ roots_length → HalfOf letter side roots m (map (λ (e : ℕ). cond (eqb (get_or letter e 0) m) (get_or side e 0) e) roots)
half_of letter side roots m long = record {
  long = length-map roots (λ (e : ℕ). cond (eqb (get_or letter e 0) m) (get_or side e 0) e) ∙ long;
  is = λ j h. map_at (λ (e : ℕ). cond (eqb (get_or letter e 0) m) (get_or side e 0) e) roots 0 0 j (omega arith);
}

-- entry 0 is the terminal 0
module _ {k : ℕ} {l w h : List ℕ} {used : ℕ} (o : Legible k l w h used) where
  zero_within : 0 < used
  zero_within = omega (arith, (legible_sound o).three, legible_long o)

  pub zero_letter : get_or l 0 0 ≡ terminal_letter
  zero_letter = sym (letter_at_lem o 0 zero_within) ∙ ap (λ (x : Entry). x.letter) (legible_sound o).zeroth

  pub zero_low : get_or w 0 0 ≡ 0
  zero_low = sym (low_at o 0 zero_within) ∙ ap (λ (x : Entry). x.low) (legible_sound o).zeroth

-- a function of one of two things
cond_both : (F : List ℕ → ℕ) (b : Bool) (x y : List ℕ) → F (cond b x y) ≡ cond b (F x) (F y)
cond_both F true x y = refl
cond_both F false x y = refl

-- any entries of the working columns are among the last k letters of k
pub rooted_all : {net : List ℕ} {n k : ℕ} {l w h : List ℕ} {used : ℕ} {roots : List ℕ} → Inner net n → Legible k l w h used → length roots ≡ roots_length → ((j : ℕ) → j < roots_length → get_or roots j 0 < used)
    → AllCalm (net_circuit net) k (held l w h used) roots → Rooted net n k l w h used roots k
rooted_all i o long in-columns calm = record { node = i; working = o; long = long; operand = λ j g. record { within = in-columns j g; from = omega arith }; calm = calm }

-- the roots of a descent, by place
module _ {net : List ℕ} {n k : ℕ} {l w h : List ℕ} {used : ℕ} {roots : List ℕ} {left : ℕ} (r : Rooted net n k l w h used roots left) where
  abbrev c : Circuit
  c = net_circuit net

  abbrev t : Table
  t = held l w h used

  sound : Sound k t
  sound = legible_sound r.working

  long : length t ≡ used
  long = legible_long r.working

  within : (j : ℕ) → j < roots_length → get_or roots j 0 < used
  within j g = (r.operand j g).within

  pub ready_roots : Roots k (held l w h used) roots
  ready_roots = record { few = r.working.few; sound = r.working.sound; long = r.long; within = λ j g. omega (arith, within j g, long) }

  -- they are entries of each column
  pub ready_entries : (column : List ℕ) → length column ≡ length l → Entries column roots
  ready_entries column e = record { long = r.long; within = λ j g. omega (arith, within j g, r.working.fits) }

  -- without those that do not matter
  module _ {out : List ℕ} (s : Narrowed (net_circuit net) n roots out) where
    zero_operand : Operand k t used left 0
    zero_operand = record {
      within = omega (arith, sound.three, long);
      from = omega (arith, ap (λ (x : Entry). x.letter) sound.zeroth, r.working.few);
    }

    pub narrow_ready : Rooted net n k l w h used out left
    narrow_ready = record {
      node = r.node;
      working = r.working;
      long = s.long;
      operand = λ j g.
          ⊎_elim
          (λ (e : get_or out j 0 ≡ get_or roots j 0). subst (Operand k t used left) (sym e) (r.operand j g))
          (λ (e : get_or out j 0 ≡ 0). subst (Operand k t used left) (sym e) zero_operand)
          (s.either j g);
      calm = record { calm = λ p g. s.calm k t ready_roots p (r.calm.calm p g) };
    }

    -- the same is stored
    pub narrow_store : (time : ℕ) (u : Table) → store k 0 (settled_by (net_circuit net) time n k (held l w h used) out) u ≡ store k 0 (settled_by (net_circuit net) time n k (held l w h used) roots) u
    narrow_store time u = store_ext k 0 (settled_by c time n k t out) (settled_by c time n k t roots) u (λ p _. s.settles k t ready_roots time p)

  module _ {m : ℕ} (least : Least l roots m) where
    module _ (leaf : m ≡ terminal_letter) where
      all_terminals : (j : ℕ) → j < roots_length → (entry_at t (get_or roots j 0)).letter ≡ terminal_letter
      all_terminals j g =
          letter_at_lem r.working (get_or roots j 0) (within j g) ∙ past_letter r.working (get_or roots j 0) (within j g) (omega (arith, least.least j g))

      -- the numbers of terminals are the same at every pattern
      same_numbers : (p : ℕ) → leaf_at k t roots p ≡ low_of w roots
      same_numbers p =
          by_roots (λ (e : ℕ). get_or w e 0) roots (leaf_at k t roots p) r.long (length-map roots (λ (e : ℕ). number_at k t e p) ∙ r.long)
          (λ j g.
          map_at (λ (e : ℕ). number_at k t e p) roots 0 0 j (omega (arith, r.long))
          ∙ number_terminal k 0 t (get_or roots j 0) p (omega (arith, r.working.few)) (all_terminals j g)
          ∙ low_at r.working (get_or roots j 0) (within j g))

      pub ready_leaf : LeafOf net n w roots
      ready_leaf = record {
        entries = ready_entries w r.working.low_long;
        node = r.node;
        calm = subst (Calm c) (same_numbers 0) (r.calm.calm 0 (pow_pos k));
      }

      pub leaf_store : (time : ℕ) (u : Table) → store k 0 (settled_by (net_circuit net) time n k (held l w h used) roots) u ≡ add (terminal (settled_at (net_circuit net) time n (low_of w roots))) u
      leaf_store time u = store_number k 0 (settled_at c time n (low_of w roots)) (settled_by c time n k t roots) u (λ p _. ap (settled_at c time n) (same_numbers p))

    module _ (node : m ≡ terminal_letter → ⊥) where
      -- the least letter is one of the letters
      pub going_small : m < k
      going_small =
          let at = least.taken node in
          rw (← at.2) (branch_letter r.working (get_or roots at.0 0) (within at.0 at.1) (λ q. node (sym at.2 ∙ q)))

      -- and those from it on are among the last `left`
      going_room : k ≤ m + left
      going_room =
          let at = least.taken node in
          omega (arith, (r.operand at.0 at.1).from, letter_at_lem r.working (get_or roots at.0 0) (within at.0 at.1), at.2)

      pub going_left : 1 ≤ left
      going_left = omega (arith, going_small, going_room)

      from_letter : (j : ℕ) → j < roots_length → m ≤ (entry_at t (get_or roots j 0)).letter
      from_letter j g = omega (arith, least.least j g, letter_at_lem r.working (get_or roots j 0) (within j g))

      terminal_past : m < terminal_letter
      terminal_past = omega (arith, going_small, r.working.few)

      module _ (bit : ℕ) (one : bit ≤ 1) {out : List ℕ} (half : out ≡ shannon.parts t m bit roots) where
        half_at_lem : (j : ℕ) → j < roots_length → get_or out j 0 ≡ part_of t m bit (get_or roots j 0)
        half_at_lem j g = ap (λ (xs : List ℕ). get_or xs j 0) half ∙ map_at (part_of t m bit) roots 0 0 j (omega (arith, r.long))

        -- the numbers of the parts are those of the roots with the letter set
        half_numbers : (p : ℕ) → leaf_at k t out p ≡ leaf_at k t roots (with_letter m bit p)
        half_numbers p =
            let size : length out ≡ roots_length = ap length half ∙ length-map roots (part_of t m bit) ∙ r.long in
            ext_get_or 0 (leaf_at k t out p) (leaf_at k t roots (with_letter m bit p))
            (length-map out (λ (e : ℕ). number_at k t e p) ∙ size ∙ sym (length-map roots (λ (e : ℕ). number_at k t e (with_letter m bit p)) ∙ r.long))
            (λ j g.
            let few : j < roots_length = omega (arith, length-map out (λ (e : ℕ). number_at k t e p)) in
            map_at (λ (e : ℕ). number_at k t e p) out 0 0 j (omega arith)
            ∙ ap (λ (e : ℕ). number_at k t e p) (half_at_lem j few)
            ∙ number_part t m bit (get_or roots j 0) p r.working.few sound (omega (arith, within j few, long)) going_small one (from_letter j few)
            ∙ sym (map_at (λ (e : ℕ). number_at k t e (with_letter m bit p)) roots 0 0 j (omega (arith, r.long))))

        half_ready : Rooted net n k l w h used out (left - 1)
        half_ready = record {
          node = r.node;
          working = r.working;
          long = ap length half ∙ length-map roots (part_of t m bit) ∙ r.long;
          operand = λ j g.
              subst (Operand k t used (left - 1)) (sym (half_at_lem j g))
              (record {
                within = omega (arith, part_within t m (get_or roots j 0) bit sound terminal_past (omega (arith, within j g, long)), long);
                from = omega (arith, part_larger t m (get_or roots j 0) bit sound terminal_past (omega (arith, within j g, long)) (from_letter j g), (r.operand j g).from, going_left, going_room);
              });
          calm = record {
            calm = λ p g. subst (Calm c) (sym (half_numbers p)) (r.calm.calm (with_letter m bit p) (with_lt k m bit p g going_small one));
          };
        }

      -- the parts by the columns
      low_half : {out : List ℕ} → HalfOf l w roots m out → out ≡ shannon.parts t m 0 roots
      low_half {out} f =
          by_roots (part_of t m 0) roots out r.long f.long
          (λ j g. f.is j g ∙ sym (rw (letter_at_lem r.working (get_or roots j 0) (within j g), low_at r.working (get_or roots j 0) (within j g))))

      high_half : {out : List ℕ} → HalfOf l h roots m out → out ≡ shannon.parts t m 1 roots
      high_half {out} f =
          by_roots (part_of t m 1) roots out r.long f.long
          (λ j g. f.is j g ∙ sym (rw (letter_at_lem r.working (get_or roots j 0) (within j g), high_at r.working (get_or roots j 0) (within j g))))

      -- the halves go on with one letter less
      pub low_ready : {out : List ℕ} → HalfOf l w roots m out → Rooted net n k l w h used out (left - 1)
      low_ready f = half_ready 0 (omega arith) (low_half f)

      pub high_ready : {out : List ℕ} → HalfOf l h roots m out → Rooted net n k l w h used out (left - 1)
      high_ready f = half_ready 1 (omega arith) (high_half f)

      all_roots : shannon.Roots t m roots
      all_roots = shannon.roots_of t m roots (λ j g. (omega (arith, within j (omega (arith, r.long)), long), from_letter j (omega (arith, r.long))))

      -- and make the function
      pub going_halves : {a b : List ℕ} → HalfOf l w roots m a → HalfOf l h roots m b → (time : ℕ) (u : Table) → Sound k u
          → Halves k u m (settled_by (net_circuit net) time n k (held l w h used) roots) (settled_by (net_circuit net) time n k (held l w h used) a)
          (λ _. settled_by (net_circuit net) time n k (held l w h used) b)
      going_halves {a} {b} fa fb time u su =
          let F : List ℕ → ℕ = settled_at c time n in
          let few : k ≤ 12 = r.working.few in
          let past : (bit p q : ℕ) → p / 2 ^ suc m ≡ q / 2 ^ suc m → F (leaf_at k t (shannon.parts t m bit roots) p) ≡ F (leaf_at k t (shannon.parts t m bit roots) q) =
          λ bit p q e. ap F (shannon.roots_past t few sound (suc m) (shannon.parts t m bit roots) going_small (shannon.roots_parts t few sound m bit roots going_small all_roots) p q e) in
          let halved : store k 0 (settled_by c time n k t roots) u ≡ both m (store k 0 (λ p. F (leaf_at k t (shannon.parts t m 0 roots) p)) u) (λ v. store k 0 (λ p. F (leaf_at k t (shannon.parts t m 1 roots) p)) v) =
          shannon.store_halves m (settled_by c time n k t roots) (λ p. F (leaf_at k t (shannon.parts t m 0 roots) p)) (λ p. F (leaf_at k t (shannon.parts t m 1 roots) p)) u few su going_small
          (past 0) (past 1)
          (λ p g.
          ap F (shannon.roots_split t few sound m roots p going_small all_roots)
          ∙ cond_both F (eqb (letter_at m p) 1) (leaf_at k t (shannon.parts t m 1 roots) p) (leaf_at k t (shannon.parts t m 0 roots) p)) in
          record { halved = rw (low_half fa, high_half fb) halved; stable = λ x y e. refl }

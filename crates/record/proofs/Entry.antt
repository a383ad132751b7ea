-- An entry of a lent table, in the numbers of the columns.
use mathlib.Core.Path.{◌≡◌, sym, ◌∙◌, ap, subst}
use mathlib.Core.Logic.{◌↔◌}
use mathlib.Core.List.{List}
use mathlib.Core.Bool.{Bool, true, false, ◌&&◌}
use Prim.Native.Nat.{ℕ, ◌<◌, ◌≤◌, min}
use native.Mathlib.Omega.{arith}
use lib.ListN.{length, get_or}
use lib.Pow.{pow_pos}
use borrow.Author.Tests.{lt-ltb, le-ltb}
use Rattle.lists.specs.Tests.{below}
use Rattle.lists.proofs.Cases.{and_left, and_right, and_both, bool_ext}
use Rattle.lists.proofs.Below.{below_each, each_below}
use Rattle.diagram.specs.Pattern.{patterns}
use Rattle.diagram.specs.Table.{never, terminal_letter, entry_at, number_at}
use Rattle.diagram.proofs.Values.{values_branch}
use Rattle.rules.specs.Run.{least_below}
use Rattle.rules.proofs.Time.{least_below_lem, least_own}
use Rattle.functions.specs.Open.{Legible}
use Rattle.functions.proofs.Carry.{legible_sound, legible_long, letter_at_lem, low_at, high_at}
use Rattle.operations.proofs.Reading.{number_leaf}
use Rattle.diagram.specs.Held.{held}
use Rattle.record.specs.Numbers.{among, all_among, entry_among, least_of}
use Rattle.record.proofs.LeastBelow.{least_never, least_greatest}

module _ {letters : ℕ} {l w h : List ℕ} {used : ℕ} (o : Legible letters l w h used) (e : ℕ) (g : e < used) where
  within : e < length (held l w h used)
  within = omega (arith, legible_long o)

  -- an entry of the table is judged by its numbers
  pub entry_in : (after most other : ℕ) {all : Bool} → all ≡ all_among letters (held l w h used) after most other e → all ≡ entry_among letters (held l w h used) after most other e
  entry_in after most other p = p ∙ sym (ap (λ (b : Bool). b && all_among letters (held l w h used) after most other e) (lt-ltb e (length (held l w h used)) within))

  -- a terminal takes its own number
  module _ (leaf : get_or l e 0 ≡ terminal_letter) where
    end : (p : ℕ) → number_at letters (held l w h used) e p ≡ get_or w e 0
    end p = sym (number_leaf o e g leaf p)

    pub among_leaf : (after most other : ℕ) → among after most other (get_or w e 0) ≡ all_among letters (held l w h used) after most other e
    unfolding all_among
    among_leaf after most other =
        let is : ℕ → Type 0 = λ (x : ℕ). among after most other x ≡ true in
        let test : ℕ → Bool = λ (p : ℕ). among after most other (number_at letters (held l w h used) e p) in
        bool_ext (among after most other (get_or w e 0)) (below (patterns letters) test)
        (λ a. each_below (patterns letters) test (λ p i. subst is (sym (end p)) a))
        (λ a. subst is (end 0) (below_each (patterns letters) test a 0 (pow_pos letters)))

    pub least_leaf : get_or w e 0 ≤ never → get_or w e 0 ≡ least_of letters (held l w h used) e
    least_leaf most =
        let own = least_own (patterns letters) (number_at letters (held l w h used) e) (pow_pos letters) (λ p. omega (arith, end p)) in
        sym (own.2 ∙ end own.0)

  -- a branch takes the numbers of its parts, which are earlier
  module _ (node : get_or l e 0 ≡ terminal_letter → ⊥) where
    no_leaf : (entry_at (held l w h used) e).letter ≡ terminal_letter → ⊥
    no_leaf q = node (sym (letter_at_lem o e g) ∙ q)

    values : (P : ℕ → Type 0)
        → ((p : ℕ) → p < patterns letters → P (number_at letters (held l w h used) e p))
        ↔ (((p : ℕ) → p < patterns letters → P (number_at letters (held l w h used) (get_or w e 0) p)) × ((p : ℕ) → p < patterns letters → P (number_at letters (held l w h used) (get_or h e 0) p)))
    values P = rw (← low_at o e g, ← high_at o e g) (values_branch (held l w h used) e P o.few (legible_sound o) within no_leaf)

    pub among_branch : (after most other : ℕ) → all_among letters (held l w h used) after most other e
        ≡ (all_among letters (held l w h used) after most other (get_or w e 0) && all_among letters (held l w h used) after most other (get_or h e 0))
    unfolding all_among
    among_branch after most other =
        let is : ℕ → Type 0 = λ (x : ℕ). among after most other x ≡ true in
        let test : ℕ → ℕ → Bool = λ (i p : ℕ). among after most other (number_at letters (held l w h used) i p) in
        let all : ℕ → Bool = λ (i : ℕ). below (patterns letters) (test i) in
        bool_ext (all e) (all (get_or w e 0) && all (get_or h e 0))
        (λ a.
        let parts = (values is).0 (below_each (patterns letters) (test e) a) in
        and_both (all (get_or w e 0)) (all (get_or h e 0)) (each_below (patterns letters) (test (get_or w e 0)) parts.0) (each_below (patterns letters) (test (get_or h e 0)) parts.1))
        (λ a.
        each_below (patterns letters) (test e) ((values is).1 (
          below_each (patterns letters) (test (get_or w e 0)) (and_left (all (get_or w e 0)) (all (get_or h e 0)) a),
          below_each (patterns letters) (test (get_or h e 0)) (and_right (all (get_or w e 0)) (all (get_or h e 0)) a),
        )))

    pub among_high : (after most other : ℕ) {low all : Bool} → low ≡ all_among letters (held l w h used) after most other (get_or w e 0) → low ≡ true
        → all ≡ all_among letters (held l w h used) after most other (get_or h e 0) → all ≡ all_among letters (held l w h used) after most other e
    among_high after most other p q r =
        r ∙ sym (among_branch after most other ∙ ap (λ (b : Bool). b && all_among letters (held l w h used) after most other (get_or h e 0)) (sym p ∙ q))

    pub among_low : (after most other : ℕ) {low : Bool} → low ≡ all_among letters (held l w h used) after most other (get_or w e 0) → low ≡ false
        → false ≡ all_among letters (held l w h used) after most other e
    among_low after most other p q = sym (among_branch after most other ∙ ap (λ (b : Bool). b && all_among letters (held l w h used) after most other (get_or h e 0)) (sym p ∙ q))

    pub least_branch : min (least_of letters (held l w h used) (get_or w e 0)) (least_of letters (held l w h used) (get_or h e 0)) ≡ least_of letters (held l w h used) e
    least_branch =
        let n : ℕ = patterns letters in
        let number : ℕ → ℕ → ℕ = λ (i p : ℕ). number_at letters (held l w h used) i p in
        let whole : ℕ = least_below n (number e) in
        let a : ℕ = least_below n (number (get_or w e 0)) in
        let b : ℕ = least_below n (number (get_or h e 0)) in
        let parts = (values (λ (x : ℕ). whole ≤ x)).0 (least_below_lem n (number e)) in
        let low : whole ≤ a = least_greatest n (number (get_or w e 0)) whole (least_never n (number e)) parts.0 in
        let high : whole ≤ b = least_greatest n (number (get_or h e 0)) whole (least_never n (number e)) parts.1 in
        let up : min a b ≤ whole =
        least_greatest n (number e) (min a b) (omega (arith, least_never n (number (get_or w e 0))))
        ((values (λ (x : ℕ). min a b ≤ x)).1 (
          λ p i. omega (arith, least_below_lem n (number (get_or w e 0)) p i),
          λ p i. omega (arith, least_below_lem n (number (get_or h e 0)) p i),
        )) in
        omega arith

-- no entry of the table
pub entry_out : {letters : ℕ} {l w h : List ℕ} {used : ℕ} (o : Legible letters l w h used) (e after most other : ℕ) → used ≤ e → false ≡ entry_among letters (held l w h used) after most other e
entry_out {letters} {l} {w} {h} {used} o e after most other g =
    sym (ap (λ (b : Bool). b && all_among letters (held l w h used) after most other e) (le-ltb e (length (held l w h used)) (omega (arith, legible_long o))))

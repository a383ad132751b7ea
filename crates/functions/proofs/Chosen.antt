-- The choice where it needs no recursion: by a terminal, of a function and itself, of 1 and the selector.
use mathlib.Core.Path.{◌≡◌, sym, ◌∙◌, ap}
use mathlib.Core.Logic.{⊎_elim}
use mathlib.Core.List.{List}
use mathlib.Core.Bool.{true, false, cond}
use Prim.Native.Nat.{ℕ, ◌+◌, ◌<◌}
use native.Mathlib.Omega.{arith}
use lib.ListN.{length, get_or}
use lib.Dec.{eqb}
use borrow.Author.Tests.{eqb-true}
use Rattle.lists.proofs.Cases.{bool_cases}
use Rattle.diagram.specs.Table.{Table, terminal_letter, number_at}
use Rattle.diagram.specs.Store.{stored}
use Rattle.diagram.specs.Operation.{chosen}
use Rattle.diagram.specs.Held.{held}
use Rattle.diagram.proofs.Sound.{Sound}
use Rattle.diagram.proofs.Number.{number_first}
use Rattle.diagram.proofs.Shannon.{choose_terminal}
use Rattle.functions.specs.Open.{Legible}
use Rattle.functions.specs.Known.{Found}
use Rattle.functions.proofs.Carry.{legible_sound, legible_long, letter_at_lem, low_at}
use Rattle.functions.proofs.Known.{there_means, found_entry}

module _ {letters : ℕ} {l w h : List ℕ} {used : ℕ} (o : Legible letters l w h used) {s a b : ℕ} (hs : s < used) (ha : a < used) (hb : b < used) where
  abbrev t : Table
  t = held l w h used

  sound : Sound letters t
  sound = legible_sound o

  long : length t ≡ used
  long = legible_long o

  abbrev number : ℕ → ℕ → ℕ
  number e p = number_at letters t e p

  -- the selector is a terminal
  pub terminal_within : {e : ℕ} → e ≡ cond (eqb (get_or w s 0) 1) a b → e < used
  terminal_within same =
      ⊎_elim
      (λ (x : eqb (get_or w s 0) 1 ≡ true). rw (same, x) ha)
      (λ (x : eqb (get_or w s 0) 1 ≡ false). rw (same, x) hb)
      (bool_cases (eqb (get_or w s 0) 1))

  pub terminal_found : {e : ℕ} → get_or l s 0 ≡ terminal_letter → e ≡ cond (eqb (get_or w s 0) 1) a b → Found letters (held l w h used) (chosen letters (held l w h used) s a b) (e + 1)
  terminal_found {e} leaf same =
      found_entry (there_means o.few sound
      (choose_terminal t o.few sound s a b (letter_at_lem o s hs ∙ leaf) (omega (arith, ha, long)) (omega (arith, hb, long))
      ∙ ap (λ (v : ℕ). stored t (cond (eqb v 1) a b)) (low_at o s hs)
      ∙ ap (stored t) (sym same)))

  -- both are one function
  pub same_found : a ≡ b → Found letters (held l w h used) (chosen letters (held l w h used) s a b) (a + 1)
  same_found same = found_entry record {
    within = omega (arith, ha, long);
    number = λ p _.
        rw (← same)
        (⊎_elim
        (λ (x : eqb (number s p) 1 ≡ true). rw x)
        (λ (x : eqb (number s p) 1 ≡ false). rw x)
        (bool_cases (eqb (number s p) 1)));
  }

  -- 1 where the selector is 1, and else the selector
  pub either_found : a ≡ 1 → s ≡ b → Found letters (held l w h used) (chosen letters (held l w h used) s a b) (s + 1)
  either_found one own = found_entry record {
    within = omega (arith, hs, long);
    number = λ p _.
        rw (one, ← own, number_first t p o.few sound)
        (⊎_elim
        (λ (x : eqb (number s p) 1 ≡ true). rw x (eqb-true (number s p) 1 x))
        (λ (x : eqb (number s p) 1 ≡ false). rw x)
        (bool_cases (eqb (number s p) 1)));
  }

-- Laws of where two entries of the lent table differ.
use mathlib.Core.Path.{◌≡◌, refl, sym, ◌∙◌, ap}
use mathlib.Core.Logic.{⊎_elim}
use mathlib.Core.List.{List, [], ◌∷◌}
use mathlib.Core.Bool.{Bool, true, false, not}
use Prim.Native.Nat.{ℕ, suc, ◌+◌, ◌-◌, ◌<◌, ◌≤◌, min}
use native.Mathlib.Omega.{arith}
use lib.ListN.{length, get_or}
use lib.Dec.{eqb}
use borrow.Author.Tests.{eq-eqb, ne_eqb}
use Rattle.lists.proofs.Cases.{bool_cases, eq_or_ne}
use Rattle.diagram.specs.Pattern.{most_letters, letter_at}
use Rattle.diagram.specs.Table.{Table, terminal_letter, entry_at, number_at}
use Rattle.diagram.specs.Store.{both, store}
use Rattle.diagram.specs.Held.{entries, held}
use Rattle.diagram.proofs.Sound.{Sound, entry_path}
use Rattle.diagram.proofs.Number.{number_terminal}
use Rattle.diagram.proofs.Shannon.{store_halves, Roots, none, root, numbers, parts, roots_parts, roots_past, roots_split}
use Rattle.functions.specs.Open.{Legible, Operand, PartsOf}
use Rattle.functions.proofs.Carry.{legible_sound, legible_long, letter_at_lem, branch_letter, past_letter, parts_table, part_operands}
use Rattle.functions.proofs.Halving.{Halves}
use Rattle.functions.specs.Known.{Means}
use Rattle.working.specs.Grown.{bit}
use Rattle.working.specs.Known.{differing}
use Rattle.working.proofs.Grow.{means_same, is_zero, is_one}

-- a function of the numbers of some roots of one table is stored in another by their parts at a letter that is not behind them
roots_into : {letters : ℕ} (t u : Table) (m : ℕ) (F : List ℕ → ℕ) (es : List ℕ) → letters ≤ most_letters → Sound letters t → Sound letters u → m < letters → Roots t m es
    → store letters 0 (λ p. F (numbers letters t es p)) u
    ≡ both m (store letters 0 (λ p. F (numbers letters t (parts t m 0 es) p)) u) (λ v. store letters 0 (λ p. F (numbers letters t (parts t m 1 es) p)) v)
roots_into {letters} t u m F es few s su small r =
    let low : ℕ → ℕ = λ p. F (numbers letters t (parts t m 0 es) p) in
    let high : ℕ → ℕ = λ p. F (numbers letters t (parts t m 1 es) p) in
    store_halves m (λ p. F (numbers letters t es p)) low high u few su small
    (λ p q e. ap F (roots_past t few s (suc m) (parts t m 0 es) small (roots_parts t few s m 0 es small r) p q e))
    (λ p q e. ap F (roots_past t few s (suc m) (parts t m 1 es) small (roots_parts t few s m 1 es small r) p q e))
    (λ p l.
    let whole = roots_split t few s m es p small r in
    ⊎_elim
    (λ (x : eqb (letter_at m p) 1 ≡ true). rw x (ap F (rw x at whole)))
    (λ (x : eqb (letter_at m p) 1 ≡ false). rw x (ap F (rw x at whole)))
    (bool_cases (eqb (letter_at m p) 1)))

-- entries a and b of letters among the last `left`
module _ {letters : ℕ} {tl tw th : List ℕ} {tused : ℕ} (lent : Legible letters tl tw th tused) {left a b : ℕ} (xa : Operand letters (held tl tw th tused) tused left a)
    (xb : Operand letters (held tl tw th tused) tused left b) where
  abbrev t : Table
  t = held tl tw th tused

  sound : Sound letters t
  sound = legible_sound lent

  in_a : a < length t
  in_a = omega (arith, xa.within, legible_long lent)

  in_b : b < length t
  in_b = omega (arith, xb.within, legible_long lent)

  letter_a : (entry_at t a).letter ≡ get_or tl a 0
  letter_a = letter_at_lem lent a xa.within

  letter_b : (entry_at t b).letter ≡ get_or tl b 0
  letter_b = letter_at_lem lent b xb.within

  -- equal entries differ nowhere
  pub differ_nowhere : {u : Table} → Sound letters u → a ≡ b → Means letters u 0 (differing letters (held tl tw th tused) a b 0)
  differ_nowhere su e = means_same (is_zero lent.few su) (λ p _. sym (ap (λ (x : Bool). bit (not x)) (eq-eqb (number_at letters t a p) (number_at letters t b p) (ap (λ (i : ℕ). number_at letters t i p) e))))

  module _ {m : ℕ} (least : m ≡ min (get_or tl a 0) (get_or tl b 0)) where
    -- other terminals differ everywhere
    pub differ_everywhere : {u : Table} → Sound letters u → (a ≡ b → ⊥) → m ≡ terminal_letter → Means letters u 1 (differing letters (held tl tw th tused) a b 0)
    differ_everywhere su ne end =
        let la : (entry_at t a).letter ≡ terminal_letter = letter_a ∙ past_letter lent a xa.within (omega arith) in
        let lb : (entry_at t b).letter ≡ terminal_letter = letter_b ∙ past_letter lent b xb.within (omega arith) in
        let other : (entry_at t a).low ≡ (entry_at t b).low → ⊥ =
        λ q. ne (sound.apart a b in_a in_b (entry_path (entry_at t a) (entry_at t b) (la ∙ sym lb) q ((sound.legal a in_a).leaf la ∙ sym ((sound.legal b in_b).leaf lb)))) in
        let number : (e p : ℕ) → (entry_at t e).letter ≡ terminal_letter → number_at letters t e p ≡ (entry_at t e).low = λ e p q. number_terminal letters 0 t e p (omega (arith, lent.few)) q in
        means_same (is_one lent.few su) (λ p _. sym (ap (λ (x : Bool). bit (not x)) (ne_eqb (number_at letters t a p) (number_at letters t b p) (λ q. other (sym (number a p la) ∙ q ∙ number b p lb)))))

    module _ (node : m ≡ terminal_letter → ⊥) where
      differ_small : m < letters
      differ_small =
          ⊎_elim
          (λ (ea : get_or tl a 0 ≡ terminal_letter).
          ⊎_elim
          (λ (eb : get_or tl b 0 ≡ terminal_letter). absurd (node (omega arith)))
          (λ (nb : get_or tl b 0 ≡ terminal_letter → ⊥). omega (arith, branch_letter lent b xb.within nb))
          (eq_or_ne (get_or tl b 0) terminal_letter))
          (λ (na : get_or tl a 0 ≡ terminal_letter → ⊥). omega (arith, branch_letter lent a xa.within na))
          (eq_or_ne (get_or tl a 0) terminal_letter)

      room : letters ≤ m + left
      room = omega (arith, xa.from, xb.from, letter_a, letter_b)

      pub differ_room : 1 ≤ left
      differ_room = omega (arith, room, differ_small)

      module _ {a0 a1 b0 b1 : ℕ} (qa : PartsOf (entries tl tw th) m a a0 a1) (qb : PartsOf (entries tl tw th) m b b0 b1) where
        -- the parts have one letter less
        pub differ_first : Operand letters (held tl tw th tused) tused (left - 1) a0 × Operand letters (held tl tw th tused) tused (left - 1) a1
        differ_first = part_operands lent differ_small room (omega arith) xa qa

        pub differ_second : Operand letters (held tl tw th tused) tused (left - 1) b0 × Operand letters (held tl tw th tused) tused (left - 1) b1
        differ_second = part_operands lent differ_small room (omega arith) xb qb

        -- and where they differ makes where the entries do
        pub differ_halves : (u : Table) → Sound letters u
            → Halves letters u m (differing letters (held tl tw th tused) a b 0) (differing letters (held tl tw th tused) a0 b0 0) (λ v. differing letters (held tl tw th tused) a1 b1 0)
        differ_halves u su =
            let pa : PartsOf t m a a0 a1 = parts_table lent xa.within qa in
            let pb : PartsOf t m b b0 b1 = parts_table lent xb.within qb in
            record {
              halved =
                  rw (pa.low_is, pa.high_is, pb.low_is, pb.high_is)
                  (roots_into t u m (λ (vs : List ℕ). bit (not (eqb (get_or vs 0 0) (get_or vs 1 0)))) (a ∷ b ∷ []) lent.few sound su differ_small
                  (root in_a (omega (arith, letter_a)) (root in_b (omega (arith, letter_b)) none)));
              stable = λ v z y. refl;
            }

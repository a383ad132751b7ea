-- Rule 3 past the last transistor that closes a loop, over entries: kept where it conducts.
use mathlib.Core.Path.{◌≡◌, refl, sym, ◌∙◌, ap, subst}
use mathlib.Core.Logic.{⊎_elim}
use mathlib.Core.List.{List}
use mathlib.Core.Bool.{Bool, true, false, not, ◌&&◌, cond}
use Prim.Native.Nat.{ℕ, ◌+◌, ◌≤◌, ◌<◌}
use native.Mathlib.Omega.{arith}
use lib.ListN.{length, get_or, set, length-set}
use lib.Seq.{get_or-set_same, get_or-set_other}
use lib.Dec.{eqb}
use borrow.Author.Tests.{eq-eqb, ne_eqb}
use Rattle.lists.proofs.Cases.{eq_or_ne}
use Rattle.format.specs.declared.Transistor.{Transistor}
use Rattle.format.specs.Circuit.{Circuit}
use Rattle.diagram.specs.Pattern.{patterns}
use Rattle.diagram.specs.Table.{Table, number_at}
use Rattle.diagram.specs.Held.{held}
use Rattle.diagram.specs.Extends.{Extends}
use Rattle.diagram.proofs.Add.{extends_refl, extends_trans}
use Rattle.table.specs.declared.Put.{Put}
use Rattle.table.specs.declared.Stop.TheVariants.{Going as NotStopped}
use Rattle.table.specs.Stop.{stopped}
use Rattle.functions.specs.Open.{Open}
use Rattle.working.specs.Grown.{bit, Grown}
use Rattle.working.specs.Many.{AllUsed}
use Rattle.working.proofs.Grow.{grown_same, grown_there, grown_number, grown_within, grown_entry}
use Rattle.working.proofs.Fill.{number_kept, means_zero}
use Rattle.rules.specs.State.{State, value_at}
use Rattle.rules.specs.Kept.{conducts}
use Rattle.rules.specs.Matrix.{transistor_at}
use Rattle.prepare.specs.Steps.{Shows, Bits, group_of, conducts_number, open_number, is_open, KeptLooped, KeptRest, KeptAll}
use Rattle.prepare.proofs.Keeping.{conducts_bit, Legal}

module _ {letters : ℕ} {l w h ix : List ℕ} {used : ℕ} (o : Open letters l w h ix used) (polarity e v : ℕ) where
  -- its group is not active
  pub open_nowhere : e ≡ 0 → Grown letters (held l w h used) (λ p. open_number polarity e (number_at letters (held l w h used) v p)) l w h ix (record { stop = NotStopped; entry = 0; used = used })
  open_nowhere z = grown_same (grown_there o (means_zero o)) (λ p _. sym (ap (λ (b : Bool). cond b 0 (conducts_number polarity (number_at letters (held l w h used) v p))) (eq-eqb e 0 z)))

  -- something does
  pub open_conducts : {l1 w1 h1 ix1 : List ℕ} {r : Put} → (e ≡ 0 → ⊥) → Grown letters (held l w h used) (λ p. conducts_number polarity (number_at letters (held l w h used) v p)) l1 w1 h1 ix1 r
      → Grown letters (held l w h used) (λ p. open_number polarity e (number_at letters (held l w h used) v p)) l1 w1 h1 ix1 r
  open_conducts n g = grown_same g (λ p _. sym (ap (λ (b : Bool). cond b 0 (conducts_number polarity (number_at letters (held l w h used) v p))) (ne_eqb e 0 n)))

-- by tests
open_bit : (z b : Bool) → cond z 0 (bit b) ≡ bit (not z && b)
open_bit true b = refl
open_bit false b = refl

-- the loop over the transistors
pub record Resting (c : Circuit) (nodes letters : ℕ) (t : Table) (values active before : List ℕ) (from : ℕ) (l0 w0 h0 ix0 l w h ix : List ℕ) (used : ℕ) (out : List ℕ) (i : ℕ) : Type 0 where
  pub long : length out ≡ 64
  pub letter_long : length l ≡ length l0
  pub low_long : length w ≡ length w0
  pub high_long : length h ≡ length h0
  pub index_long : length ix ≡ length ix0
  pub rest : KeptRest c nodes letters t values active before from i l w h ix used out

pub resting_first : {c : Circuit} {nodes letters : ℕ} {l w h ix : List ℕ} {used : ℕ} {values active kept : List ℕ} {from : ℕ} → Open letters l w h ix used → length kept ≡ 64 → AllUsed 64 kept used
    → Resting c nodes letters (held l w h used) values active kept from l w h ix l w h ix used kept from
resting_first {l = l} {w} {h} {used = used} o long all = record {
  long = long;
  letter_long = refl;
  low_long = refl;
  high_long = refl;
  index_long = refl;
  rest = record { opened = o; extends = extends_refl (held l w h used); kept_used = all; same = λ i _. refl; open_is = λ i p s a b _ _. absurd (omega (arith, a, b)) };
}

-- one transistor more
module _ {c : Circuit} {nodes letters : ℕ} {l0 w0 h0 ix0 : List ℕ} {used0 : ℕ} {values active before : List ℕ} {from i : ℕ} {l w h ix : List ℕ} {used : ℕ} {out : List ℕ}
    (o : Open letters l0 w0 h0 ix0 used0) (hv : AllUsed 26 values used0) (bits : Bits letters (held l0 w0 h0 used0) values (2 + nodes)) (few : nodes ≤ 24)
    (s : Resting c nodes letters (held l0 w0 h0 used0) values active before from l0 w0 h0 ix0 l w h ix used out i)
    (t : Transistor) (te : transistor_at c i ≡ t) (legal : Legal c nodes t)
    {l1 w1 h1 ix1 : List ℕ} {p : Put}
    (g : Grown letters (held l w h used) (λ x. open_number t.polarity (get_or active (group_of c t) 0) (number_at letters (held l w h used) (get_or values t.gate 0) x)) l1 w1 h1 ix1 p) (room : stopped p.stop ≡ false) where
  abbrev r : KeptRest c nodes letters (held l0 w0 h0 used0) values active before from i l w h ix used out
  r = s.rest

  abbrev then : Table
  then = held l1 w1 h1 p.used

  own_number : (x : ℕ) (z : State) → x < patterns letters → Shows letters (held l0 w0 h0 used0) values nodes x z → number_at letters then p.entry x ≡ bit (is_open c z active i)
  own_number x z hx shows =
      (g.means room).number x hx
      ∙ ap (λ (v : ℕ). open_number t.polarity (get_or active (group_of c t) 0) v)
      (number_kept o r.extends (get_or values t.gate 0) x (hv t.gate (omega (arith, legal.gate_is))) ∙ sym (shows t.gate legal.gate_is))
      ∙ ap (λ (v : ℕ). cond (eqb (get_or active (group_of c t) 0) 0) 0 v)
      (conducts_bit t.polarity (value_at z t.gate) legal.polarity_is (subst (λ (v : ℕ). v ≤ 1) (sym (shows t.gate legal.gate_is)) (bits t.gate x legal.gate_is hx)))
      ∙ open_bit (eqb (get_or active (group_of c t) 0) 0) (conducts z t)
      ∙ ap (λ (u : Transistor). bit (not (eqb (get_or active (group_of c u) 0) 0) && conducts z u)) (sym te)

  module _ (le : from ≤ i) (hi : i < 64) where
    at_own : get_or (set out i p.entry) i 0 ≡ p.entry
    at_own = get_or-set_same out i p.entry 0 (omega (arith, s.long))

    at_other : (j : ℕ) → (j ≡ i → ⊥) → get_or (set out i p.entry) j 0 ≡ get_or out j 0
    at_other j n = get_or-set_other out i j p.entry 0 n

    rest_used : AllUsed 64 (set out i p.entry) p.used
    rest_used j hj =
        ⊎_elim
        (λ (q : j ≡ i). rw (q, at_own) (grown_entry r.opened g room))
        (λ (q : j ≡ i → ⊥). rw (at_other j q) (grown_within r.opened g room (r.kept_used j hj)))
        (eq_or_ne j i)

    rest_open : (j x : ℕ) (z : State) → from ≤ j → j < i + 1 → x < patterns letters → Shows letters (held l0 w0 h0 used0) values nodes x z
        → number_at letters then (get_or (set out i p.entry) j 0) x ≡ bit (is_open c z active j)
    rest_open j x z low lt hx shows =
        ⊎_elim
        (λ (q : j ≡ i). rw (q, at_own) (own_number x z hx shows))
        (λ (q : j ≡ i → ⊥). rw (at_other j q) (grown_number r.opened g room (get_or out j 0) x (r.kept_used j (omega (arith, lt, hi))) ∙ r.open_is j x z low (omega (arith, lt, q)) hx shows))
        (eq_or_ne j i)

    pub resting_next : length l1 ≡ length l → length w1 ≡ length w → length h1 ≡ length h → length ix1 ≡ length ix
        → Resting c nodes letters (held l0 w0 h0 used0) values active before from l0 w0 h0 ix0 l1 w1 h1 ix1 p.used (set out i p.entry) (i + 1)
    resting_next a b d e = record {
      long = length-set out i p.entry ∙ s.long;
      letter_long = a ∙ s.letter_long;
      low_long = b ∙ s.low_long;
      high_long = d ∙ s.high_long;
      index_long = e ∙ s.index_long;
      rest = record {
        opened = g.opened room;
        extends = extends_trans r.extends (g.extends room);
        kept_used = rest_used;
        same = λ j lt. at_other j (λ q. absurd (omega (arith, lt, le, q))) ∙ r.same j lt;
        open_is = rest_open;
      };
    }

-- after the last
pub resting_done : {c : Circuit} {nodes letters : ℕ} {t : Table} {values active before : List ℕ} {from i count : ℕ} {l w h ix : List ℕ} {used : ℕ} {out : List ℕ} → KeptRest c nodes letters t values active before from i l w h ix used out → count ≤ i
    → KeptRest c nodes letters t values active before from count l w h ix used out
resting_done r le = record { opened = r.opened; extends = r.extends; kept_used = r.kept_used; same = r.same; open_is = λ i p z a b. r.open_is i p z a (omega arith) }

-- values stay bits as the table grows
pub bits_kept : {nodes letters : ℕ} {l0 w0 h0 ix0 l w h ix : List ℕ} {used0 used : ℕ} (values : List ℕ) → Open letters l0 w0 h0 ix0 used0 → AllUsed 26 values used0 → nodes ≤ 24 → Open letters l w h ix used → Extends (held l0 w0 h0 used0) (held l w h used)
    → Bits letters (held l0 w0 h0 used0) values (2 + nodes) → Bits letters (held l w h used) values (2 + nodes)
bits_kept values o hv few _ x bits n p hn hp = subst (λ (z : ℕ). z ≤ 1) (sym (number_kept o x (get_or values n 0) p (hv n (omega (arith, hn, few))))) (bits n p hn hp)

-- those by the matrix, and then the others
pub kept_both : {c : Circuit} {nodes letters : ℕ} {l0 w0 h0 ix0 : List ℕ} {used0 : ℕ} {values active first : List ℕ} {from count : ℕ} {l w h ix l1 w1 h1 ix1 : List ℕ} {used used1 : ℕ} {kept : List ℕ}
    → Open letters l0 w0 h0 ix0 used0 → AllUsed 26 values used0 → nodes ≤ 24 → from ≤ 64 → KeptLooped c nodes letters (held l0 w0 h0 used0) values active from l w h ix used first
    → KeptRest c nodes letters (held l w h used) values active first from count l1 w1 h1 ix1 used1 kept → KeptAll c nodes letters (held l0 w0 h0 used0) values active from count l1 w1 h1 ix1 used1 kept
kept_both {c} {nodes} {letters} {l0} {w0} {h0} {used0 = used0} {values} {active} {first} {from} {count} {l} {w} {h} {used = used} {kept = kept} o hv few small a r = record {
  opened = r.opened;
  extends = extends_trans a.extends r.extends;
  kept_used = r.kept_used;
  kept_is = λ i p z hi hp shows. rw (r.same i hi) (number_kept a.opened r.extends (get_or first i 0) p (a.kept_used i (omega (arith, hi, small))) ∙ a.kept_is i p z hi hp shows);
  open_is = λ i p z le hi hp shows. r.open_is i p z le hi hp (λ n hn. shows n hn ∙ sym (number_kept o a.extends (get_or values n 0) p (hv n (omega (arith, hn, few)))));
}

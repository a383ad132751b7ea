-- Laws of rule 3 over entries: the loop over the transistors follows the matrix of tests.
use mathlib.Core.Path.{◌≡◌, refl, sym, ◌∙◌, ap, subst}
use mathlib.Core.Logic.{⊎_elim}
use mathlib.Core.List.{List, []}
use mathlib.Core.Bool.{Bool, true, false, not, ◌&&◌, ◌||◌, cond, and-true, and-false, or-false}
use Prim.Native.Nat.{ℕ, zero, suc, ◌+◌, ◌-◌, ◌≤◌, ◌<◌}
use native.Mathlib.Omega.{arith}
use native.Mathlib.Numerals.{add-one}
use lib.ListN.{length, get_or, set, replicate, length-set, length-replicate, get_or-replicate}
use lib.Seq.{get_or-set_same, get_or-set_other}
use lib.Dec.{ltb, eqb}
use borrow.Author.Tests.{lt-ltb, le-ltb, eq-eqb, ne_eqb}
use Rattle.lists.proofs.Cases.{eq_or_ne}
use Rattle.lists.proofs.Count.{cond_le, cond_one}
use Rattle.format.specs.declared.Transistor.{Transistor}
use Rattle.format.specs.Circuit.{Circuit}
use Rattle.diagram.specs.Pattern.{patterns}
use Rattle.diagram.specs.Table.{Table, number_at}
use Rattle.diagram.specs.Held.{held}
use Rattle.diagram.proofs.Add.{extends_refl, extends_trans}
use Rattle.diagram.proofs.Number.{number_zeroth, number_first}
use Rattle.table.specs.declared.Put.{Put}
use Rattle.table.specs.declared.Stop.TheVariants.{Going as NotStopped}
use Rattle.table.specs.Stop.{stopped}
use Rattle.functions.specs.Open.{Open}
use Rattle.working.specs.Grown.{bit, Grown}
use Rattle.working.specs.Many.{AllUsed, cell, Matrixed, linked_number}
use Rattle.working.proofs.Grow.{open_few, open_sound, open_long, open_three, means_same, grown_same, grown_then, grown_there, grown_number, grown_within, grown_entry}
use Rattle.working.proofs.Fill.{up_other, number_kept, means_own, means_zero, means_used, used_kept}
use Rattle.working.proofs.Linking.{linked_bits, linked_none}
use Rattle.rules.specs.State.{State, value_at, is_inner}
use Rattle.rules.specs.Label.{between_inner}
use Rattle.rules.specs.Matrix.{transistor_at, linked, holds, is_held, matrix_at}
use Rattle.net.specs.Net.{at, net_transistor, net_circuit}
use Rattle.net.specs.Laid.{Laid}
use Rattle.prepare.specs.Steps.{Shows, Bits, group_of, conducts_number, kept_number, looked_at, Keeping, KeptLooped}
use Rattle.prepare.proofs.Reading.{laid_between, laid_by_first, laid_by_second, laid_no_group}

-- a p or an n, in bits
pub conducts_bit : (polarity gate : ℕ) → polarity ≤ 1 → gate ≤ 1 → conducts_number polarity gate ≡ bit (eqb gate (1 - polarity))
conducts_bit zero zero hp hg = refl
conducts_bit zero (suc zero) hp hg = refl
conducts_bit zero (suc (suc g)) hp hg = absurd (omega arith)
conducts_bit (suc zero) zero hp hg = refl
conducts_bit (suc zero) (suc zero) hp hg = refl
conducts_bit (suc zero) (suc (suc g)) hp hg = absurd (omega arith)
conducts_bit (suc (suc p)) g hp hg = absurd (omega arith)

-- kept, in bits
kept_choice : (between active conducting joined : Bool)
    → cond between (cond joined 0 (cond active (bit conducting) 0)) (cond active (bit conducting) 0) ≡ bit ((conducting && active) && not (between && joined))
kept_choice true true true true = refl
kept_choice true true true false = refl
kept_choice true true false true = refl
kept_choice true true false false = refl
kept_choice true false true true = refl
kept_choice true false true false = refl
kept_choice true false false true = refl
kept_choice true false false false = refl
kept_choice false true true joined = refl
kept_choice false true false joined = refl
kept_choice false false true joined = refl
kept_choice false false false joined = refl

-- a transistor whose group is not active is nowhere kept
kept_nowhere : (polarity : ℕ) (between : Bool) (active gate joined : ℕ) → active ≡ 0 → kept_number polarity between active gate joined ≡ 0
kept_nowhere polarity between active gate joined e = rw e (by between (eqb joined 1))
  where
    by : (a b : Bool) → ◌≡◌ {A = ℕ} (cond a (cond b 0 0) 0) 0
    by true true = refl
    by true false = refl
    by false b = refl

module _ {letters : ℕ} {l w h ix : List ℕ} {used : ℕ} (o : Open letters l w h ix used) where
  abbrev n : ℕ → ℕ → ℕ
  n e p = number_at letters (held l w h used) e p

  zero_is : {e : ℕ} → e ≡ 0 → (p : ℕ) → n e p ≡ 0
  zero_is e p = rw e (number_zeroth (held l w h used) p (open_few o) (open_sound o))

  -- a p conducts where its gate is not 1
  pub conducts_opposite : (polarity v : ℕ) {l1 w1 h1 ix1 : List ℕ} {r : Put} → polarity ≡ 1 → Grown letters (held l w h used) (λ p. cond (eqb (number_at letters (held l w h used) v p) 1) 0 1) l1 w1 h1 ix1 r
      → Grown letters (held l w h used) (λ p. conducts_number polarity (number_at letters (held l w h used) v p)) l1 w1 h1 ix1 r
  conducts_opposite polarity v e g = grown_same g (λ p _. rw e)

  -- an n where it is
  pub conducts_same : (polarity v : ℕ) → (polarity ≡ 1 → ⊥) → v < used → Grown letters (held l w h used) (λ p. conducts_number polarity (number_at letters (held l w h used) v p)) l w h ix (record { stop = NotStopped; entry = v; used = used })
  conducts_same polarity v ne lt = grown_same (grown_there o (means_own o lt)) (λ p _. sym (ap (λ (b : Bool). cond b (cond (eqb (n v p) 1) 0 1) (n v p)) (ne_eqb polarity 1 ne)))

  -- kept nowhere
  pub keep_nowhere : (polarity : ℕ) (between : Bool) (e v j : ℕ) → e ≡ 0
      → Grown letters (held l w h used) (λ p. kept_number polarity between (number_at letters (held l w h used) e p) (number_at letters (held l w h used) v p) (number_at letters (held l w h used) j p)) l w h ix (record { stop = NotStopped; entry = 0; used = used })
  keep_nowhere polarity between e v j z =
      grown_same (grown_there o (means_zero o)) (λ p _. sym (kept_nowhere polarity between (n e p) (n v p) (n j p) (zero_is z p)))

  -- of an active group and conducting
  module _ (polarity e v j : ℕ) (between : Bool) (he : e < used) {l1 w1 h1 ix1 l2 w2 h2 ix2 : List ℕ} {p q : Put}
      (g : Grown letters (held l w h used) (λ x. conducts_number polarity (number_at letters (held l w h used) v x)) l1 w1 h1 ix1 p) (room : stopped p.stop ≡ false)
      (s : Grown letters (held l1 w1 h1 p.used) (λ x. cond (eqb (number_at letters (held l1 w1 h1 p.used) e x) 1) (number_at letters (held l1 w1 h1 p.used) p.entry x) 0) l2 w2 h2 ix2 q) where
    active_grown : Grown letters (held l w h used) (λ x. cond (eqb (number_at letters (held l w h used) e x) 1) (conducts_number polarity (number_at letters (held l w h used) v x)) 0) l2 w2 h2 ix2 q
    active_grown = grown_then g room (grown_same s (λ x hx. rw (grown_number o g room e x he, (g.means room).number x hx)))

    -- with a driven end that is all
    pub keep_driven : between ≡ false
        → Grown letters (held l w h used) (λ x. kept_number polarity between (number_at letters (held l w h used) e x) (number_at letters (held l w h used) v x) (number_at letters (held l w h used) j x)) l2 w2 h2 ix2 q
    keep_driven b = grown_same active_grown (λ x hx. sym (ap (λ (a : Bool). cond a (cond (eqb (n j x) 1) 0 (cond (eqb (n e x) 1) (conducts_number polarity (n v x)) 0)) (cond (eqb (n e x) 1) (conducts_number polarity (n v x)) 0)) b))

    -- between inner nodes, not where they are joined
    pub keep_between : {l3 w3 h3 ix3 : List ℕ} {r : Put} → between ≡ true → j < used → stopped q.stop ≡ false
        → Grown letters (held l2 w2 h2 q.used) (λ x. cond (eqb (number_at letters (held l2 w2 h2 q.used) j x) 1) 0 (number_at letters (held l2 w2 h2 q.used) q.entry x)) l3 w3 h3 ix3 r
        → Grown letters (held l w h used) (λ x. kept_number polarity between (number_at letters (held l w h used) e x) (number_at letters (held l w h used) v x) (number_at letters (held l w h used) j x)) l3 w3 h3 ix3 r
    keep_between b hj rest u =
        grown_then active_grown rest
        (grown_same u (λ x hx. rw (grown_number o active_grown rest j x hj, (active_grown.means rest).number x hx)
        (sym (ap (λ (a : Bool). cond a (cond (eqb (n j x) 1) 0 (cond (eqb (n e x) 1) (conducts_number polarity (n v x)) 0)) (cond (eqb (n e x) 1) (conducts_number polarity (n v x)) 0)) b))))

  -- a matrix that stays
  pub matrix_stays : (joined : List (List ℕ)) (f : ℕ → ℕ → ℕ → ℕ) → ((x y : ℕ) → x < 24 → y < 24 → cell joined x y < used) → ((x y p : ℕ) → number_at letters (held l w h used) (cell joined x y) p ≡ f x y p)
      → Matrixed letters (held l w h used) f l w h ix used joined
  matrix_stays joined f hj same = record {
    opened = o;
    extends = extends_refl _;
    means = λ x y hx hy. record { within = omega (arith, open_long o, hj x y hx hy); number = λ p _. same x y p };
  }

-- the matrix after one transistor, in three cases
module _ {letters : ℕ} {l w h ix : List ℕ} {used : ℕ} (o : Open letters l w h ix used) (between : Bool) (kept a b : ℕ) (joined : List (List ℕ)) (hj : (x y : ℕ) → x < 24 → y < 24 → cell joined x y < used) where
  abbrev number : ℕ → ℕ → ℕ
  number e p = number_at letters (held l w h used) e p

  pub link_nowhere : kept ≡ 0 → Matrixed letters (held l w h used) (λ x y p. cond between (linked_number (number_at letters (held l w h used) kept p) (number_at letters (held l w h used) (cell joined x y) p) (number_at letters (held l w h used) (cell joined x a) p) (number_at letters (held l w h used) (cell joined b y) p) (number_at letters (held l w h used) (cell joined x b) p) (number_at letters (held l w h used) (cell joined a y) p)) (number_at letters (held l w h used) (cell joined x y) p)) l w h ix used joined
  link_nowhere e = matrix_stays o joined _ hj (λ x y p.
      by between (number (cell joined x y) p) _ (sym (linked_none (number kept p) (number (cell joined x y) p) (number (cell joined x a) p) (number (cell joined b y) p) (number (cell joined x b) p) (number (cell joined a y) p) (zero_is o e p))))
    where
      by : (c : Bool) (u v : ℕ) → u ≡ v → u ≡ cond c v u
      by true u v e = e
      by false u v e = refl

  pub link_driven : between ≡ false → Matrixed letters (held l w h used) (λ x y p. cond between (linked_number (number_at letters (held l w h used) kept p) (number_at letters (held l w h used) (cell joined x y) p) (number_at letters (held l w h used) (cell joined x a) p) (number_at letters (held l w h used) (cell joined b y) p) (number_at letters (held l w h used) (cell joined x b) p) (number_at letters (held l w h used) (cell joined a y) p)) (number_at letters (held l w h used) (cell joined x y) p)) l w h ix used joined
  link_driven e = matrix_stays o joined _ hj (λ x y p. sym (ap (λ (c : Bool). cond c (linked_number (number kept p) (number (cell joined x y) p) (number (cell joined x a) p) (number (cell joined b y) p) (number (cell joined x b) p) (number (cell joined a y) p)) (number (cell joined x y) p)) e))

pub link_between : {letters : ℕ} {t : Table} {l2 w2 h2 ix2 : List ℕ} {used2 : ℕ} {out : List (List ℕ)} (between : Bool) (kept a b : ℕ) (joined : List (List ℕ)) → between ≡ true
    → Matrixed letters t (λ x y p. linked_number (number_at letters t kept p) (number_at letters t (cell joined x y) p) (number_at letters t (cell joined x a) p) (number_at letters t (cell joined b y) p) (number_at letters t (cell joined x b) p) (number_at letters t (cell joined a y) p)) l2 w2 h2 ix2 used2 out
    → Matrixed letters t (λ x y p. cond between (linked_number (number_at letters t kept p) (number_at letters t (cell joined x y) p) (number_at letters t (cell joined x a) p) (number_at letters t (cell joined b y) p) (number_at letters t (cell joined x b) p) (number_at letters t (cell joined a y) p)) (number_at letters t (cell joined x y) p)) l2 w2 h2 ix2 used2 out
link_between {letters} {t} between kept a b joined e m = record {
  opened = m.opened;
  extends = m.extends;
  means = λ x y hx hy. means_same (m.means x y hx hy) (λ p _. sym (ap (λ (c : Bool). cond c (linked_number (number_at letters t kept p) (number_at letters t (cell joined x y) p) (number_at letters t (cell joined x a) p) (number_at letters t (cell joined b y) p) (number_at letters t (cell joined x b) p) (number_at letters t (cell joined a y) p)) (number_at letters t (cell joined x y) p)) e));
}

-- kept by numbers is kept by tests
held_bit : (polarity active gate joined : ℕ) (between at : Bool) → polarity ≤ 1 → gate ≤ 1 → (between ≡ true → joined ≡ bit at)
    → kept_number polarity between active gate joined ≡ bit ((eqb gate (1 - polarity) && eqb active 1) && not (between && at))
held_bit polarity active gate joined true at hp hg hj =
    rw (conducts_bit polarity gate hp hg, hj refl, cond_one at) (kept_choice true (eqb active 1) (eqb gate (1 - polarity)) at)
held_bit polarity active gate joined false at hp hg hj =
    rw (conducts_bit polarity gate hp hg) (kept_choice false (eqb active 1) (eqb gate (1 - polarity)) at)

-- the link by numbers is the link by tests
link_bit : (between k xy xa by xb ay : Bool) → cond between (linked_number (bit k) (bit xy) (bit xa) (bit by) (bit xb) (bit ay)) (bit xy) ≡ bit (xy || ((k && between) && ((xa && by) || (xb && ay))))
link_bit true k xy xa by xb ay = linked_bits k xy xa by xb ay ∙ ap (λ (z : Bool). bit (xy || (z && ((xa && by) || (xb && ay))))) (sym (and-true k))
link_bit false k xy xa by xb ay = sym (ap bit (ap (λ (z : Bool). xy || (z && ((xa && by) || (xb && ay)))) (and-false k) ∙ or-false xy))

-- what the laws ask of a transistor
pub record Legal (c : Circuit) (nodes : ℕ) (t : Transistor) : Type 0 where
  pub polarity_is : t.polarity ≤ 1
  pub gate_is : t.gate < 2 + nodes
  pub first_least : between_inner c t ≡ true → (2 ≤ t.first) × (t.first < 26)
  pub second_least : between_inner c t ≡ true → (2 ≤ t.second) × (t.second < 26)

matrix_suc : (c : Circuit) (z : State) (looked : ℕ → Bool) (i a b : ℕ) → matrix_at c z looked (i + 1) a b
    ≡ linked (is_held c z looked i && between_inner c (transistor_at c i)) (transistor_at c i).first (transistor_at c i).second (matrix_at c z looked i) a b
unfolding matrix_at
matrix_suc c z looked i a b = rw (add-one i)

-- one transistor: its kept function, and the matrix after it
module _ {c : Circuit} {nodes letters : ℕ} {l0 w0 h0 ix0 : List ℕ} {used0 : ℕ} {values active : List ℕ} {i : ℕ} {l w h ix : List ℕ} {used : ℕ} {out : List ℕ} {joined : List (List ℕ)}
    (o : Open letters l0 w0 h0 ix0 used0) (hv : AllUsed 26 values used0) (ht : AllUsed 26 active used0) (bits : Bits letters (held l0 w0 h0 used0) values (2 + nodes)) (few : nodes ≤ 24)
    (s : Keeping c nodes letters (held l0 w0 h0 used0) values active i l w h ix used out joined)
    (t : Transistor) (te : transistor_at c i ≡ t) (legal : Legal c nodes t) (small : group_of c t < 26)
    {l1 w1 h1 ix1 : List ℕ} {p : Put}
    (g : Grown letters (held l w h used) (λ x. kept_number t.polarity (between_inner c t) (number_at letters (held l w h used) (get_or active (group_of c t) 0) x) (number_at letters (held l w h used) (get_or values t.gate 0) x) (number_at letters (held l w h used) (cell joined (t.first - 2) (t.second - 2)) x)) l1 w1 h1 ix1 p) (room : stopped p.stop ≡ false) where
  abbrev t0 : Table
  t0 = held l0 w0 h0 used0

  abbrev now : Table
  now = held l w h used

  abbrev then : Table
  then = held l1 w1 h1 p.used

  module _ (x : ℕ) (z : State) (hx : x < patterns letters) (shows : Shows letters t0 values nodes x z) where
    abbrev j : ℕ → ℕ → Bool
    j a b = matrix_at c z (looked_at c letters t0 active x) i a b

    gate_number : number_at letters now (get_or values t.gate 0) x ≡ value_at z t.gate
    gate_number = number_kept o s.extends (get_or values t.gate 0) x (hv t.gate (omega (arith, legal.gate_is))) ∙ sym (shows t.gate legal.gate_is)

    active_number : number_at letters now (get_or active (group_of c t) 0) x ≡ number_at letters t0 (get_or active (group_of c t) 0) x
    active_number = number_kept o s.extends (get_or active (group_of c t) 0) x (ht (group_of c t) small)

    cell_number : (a b : ℕ) → a < 24 → b < 24 → number_at letters now (cell joined a b) x ≡ bit (j (a + 2) (b + 2))
    cell_number a b ha hb = s.joined_is a b x z ha hb hx shows

    ends_number : between_inner c t ≡ true → number_at letters now (cell joined (t.first - 2) (t.second - 2)) x ≡ bit (j t.first t.second)
    ends_number e =
        let a : t.first - 2 + 2 ≡ t.first = omega (arith, (legal.first_least e).0) in
        let b : t.second - 2 + 2 ≡ t.second = omega (arith, (legal.second_least e).0) in
        cell_number (t.first - 2) (t.second - 2) (omega (arith, (legal.first_least e).1)) (omega (arith, (legal.second_least e).1)) ∙ rw (a, b)

    held_is : is_held c z (looked_at c letters t0 active x) i ≡ holds c z (eqb (number_at letters t0 (get_or active (group_of c t) 0) x) 1) (matrix_at c z (looked_at c letters t0 active x) i) t
    held_is = rw te

    -- the new entry is the kept test
    kept_number_lem : number_at letters then p.entry x ≡ bit (is_held c z (looked_at c letters t0 active x) i)
    kept_number_lem =
        (g.means room).number x hx
        ∙ rw (gate_number, active_number)
        (held_bit t.polarity (number_at letters t0 (get_or active (group_of c t) 0) x) (value_at z t.gate) (number_at letters now (cell joined (t.first - 2) (t.second - 2)) x) (between_inner c t) (j t.first t.second) legal.polarity_is
        (subst (λ (v : ℕ). v ≤ 1) (sym (shows t.gate legal.gate_is)) (bits t.gate x legal.gate_is hx)) ends_number)
        ∙ ap bit (sym held_is)

  module _ {l2 w2 h2 ix2 : List ℕ} {used2 : ℕ} {next : List (List ℕ)}
      (m : Matrixed letters (held l1 w1 h1 p.used) (λ a b x. cond (between_inner c t) (linked_number (number_at letters (held l1 w1 h1 p.used) p.entry x) (number_at letters (held l1 w1 h1 p.used) (cell joined a b) x) (number_at letters (held l1 w1 h1 p.used) (cell joined a (t.first - 2)) x) (number_at letters (held l1 w1 h1 p.used) (cell joined (t.second - 2) b) x) (number_at letters (held l1 w1 h1 p.used) (cell joined a (t.second - 2)) x) (number_at letters (held l1 w1 h1 p.used) (cell joined (t.first - 2) b) x)) (number_at letters (held l1 w1 h1 p.used) (cell joined a b) x)) l2 w2 h2 ix2 used2 next) where
    abbrev after : Table
    after = held l2 w2 h2 used2

    o1 : Open letters l1 w1 h1 ix1 p.used
    o1 = g.opened room

    -- numbers of before, afterwards
    later_number : (e x : ℕ) → e < used → number_at letters after e x ≡ number_at letters now e x
    later_number e x lt = number_kept o1 m.extends e x (grown_within s.opened g room lt) ∙ grown_number s.opened g room e x lt

    module _ (x : ℕ) (z : State) (hx : x < patterns letters) (shows : Shows letters t0 values nodes x z) where
      abbrev look : ℕ → Bool
      look = looked_at c letters t0 active x

      then_cell : (a b : ℕ) → a < 24 → b < 24 → number_at letters then (cell joined a b) x ≡ bit (matrix_at c z look i (a + 2) (b + 2))
      then_cell a b ha hb = grown_number s.opened g room (cell joined a b) x (s.joined_used a b ha hb) ∙ s.joined_is a b x z ha hb hx shows

      -- with the ends as rows and columns
      linked_number_lem : (a b : ℕ) → a < 24 → b < 24 → (between : Bool) → between_inner c t ≡ between
          → cond between (linked_number (number_at letters then p.entry x) (number_at letters then (cell joined a b) x) (number_at letters then (cell joined a (t.first - 2)) x) (number_at letters then (cell joined (t.second - 2) b) x) (number_at letters then (cell joined a (t.second - 2)) x) (number_at letters then (cell joined (t.first - 2) b) x)) (number_at letters then (cell joined a b) x)
          ≡ bit (linked (is_held c z look i && between) t.first t.second (matrix_at c z look i) (a + 2) (b + 2))
      linked_number_lem a b ha hb true e =
          let fa : t.first - 2 + 2 ≡ t.first = omega (arith, (legal.first_least e).0) in
          let fb : t.second - 2 + 2 ≡ t.second = omega (arith, (legal.second_least e).0) in
          let la : t.first - 2 < 24 = omega (arith, (legal.first_least e).1) in
          let lb : t.second - 2 < 24 = omega (arith, (legal.second_least e).1) in
          rw (kept_number_lem x z hx shows, then_cell a b ha hb, then_cell a (t.first - 2) ha la, then_cell (t.second - 2) b lb hb, then_cell a (t.second - 2) ha lb, then_cell (t.first - 2) b la hb, fa, fb)
          (link_bit true (is_held c z look i) (matrix_at c z look i (a + 2) (b + 2)) (matrix_at c z look i (a + 2) t.first) (matrix_at c z look i t.second (b + 2)) (matrix_at c z look i (a + 2) t.second) (matrix_at c z look i t.first (b + 2)))
      linked_number_lem a b ha hb false e =
          then_cell a b ha hb
          ∙ link_bit false (is_held c z look i) (matrix_at c z look i (a + 2) (b + 2)) (matrix_at c z look i (a + 2) t.first) (matrix_at c z look i t.second (b + 2)) (matrix_at c z look i (a + 2) t.second) (matrix_at c z look i t.first (b + 2))

      cell_after : (a b : ℕ) → a < 24 → b < 24 → number_at letters after (cell next a b) x ≡ bit (matrix_at c z look (i + 1) (a + 2) (b + 2))
      cell_after a b ha hb =
          (m.means a b ha hb).number x hx
          ∙ linked_number_lem a b ha hb (between_inner c t) refl
          ∙ ap bit (sym (matrix_suc c z look i (a + 2) (b + 2) ∙ ap (λ (u : Transistor). linked (is_held c z look i && between_inner c u) u.first u.second (matrix_at c z look i) (a + 2) (b + 2)) te))

    -- one transistor more
    pub keeping_next : length out ≡ 64 → i < 64 → Keeping c nodes letters (held l0 w0 h0 used0) values active (i + 1) l2 w2 h2 ix2 used2 (set out i p.entry) next
    keeping_next long hi = record {
      opened = m.opened;
      extends = extends_trans (extends_trans s.extends (g.extends room)) m.extends;
      kept_used = λ q hq.
          ⊎_elim
          (λ (e : q ≡ i). subst (λ (v : ℕ). v < used2) (sym (ap (λ (v : ℕ). get_or (set out i p.entry) v 0) e ∙ get_or-set_same out i p.entry 0 (omega arith))) (used_kept o1 m.opened m.extends (grown_entry s.opened g room)))
          (λ (ne : q ≡ i → ⊥). subst (λ (v : ℕ). v < used2) (sym (get_or-set_other out i q p.entry 0 ne)) (used_kept o1 m.opened m.extends (grown_within s.opened g room (s.kept_used q hq))))
          (eq_or_ne q i);
      joined_used = λ a b ha hb. means_used m.opened (m.means a b ha hb);
      kept_is = λ q x z hq hx shows.
          ⊎_elim
          (λ (e : q ≡ i).
          rw (e, get_or-set_same out i p.entry 0 (omega arith)) (number_kept o1 m.extends p.entry x (grown_entry s.opened g room) ∙ kept_number_lem x z hx shows))
          (λ (ne : q ≡ i → ⊥).
          rw (get_or-set_other out i q p.entry 0 ne) (later_number (get_or out q 0) x (s.kept_used q (omega arith)) ∙ s.kept_is q x z (omega (arith, ne)) hx shows))
          (eq_or_ne q i);
      joined_is = λ a b x z ha hb hx shows. cell_after x z hx shows a b ha hb;
    }

eqb_shift : (x y : ℕ) → eqb x y ≡ eqb (x + 2) (y + 2)
eqb_shift x y =
    ⊎_elim
    (λ (e : x ≡ y). eq-eqb x y e ∙ sym (eq-eqb (x + 2) (y + 2) (omega arith)))
    (λ (ne : x ≡ y → ⊥). ne_eqb x y ne ∙ sym (ne_eqb (x + 2) (y + 2) (λ e. ne (omega arith))))
    (eq_or_ne x y)

-- before the first transistor
pub keeping_first : {c : Circuit} {nodes letters : ℕ} {l w h ix : List ℕ} {used : ℕ} {values active : List ℕ} {out : List ℕ} {joined : List (List ℕ)} → Open letters l w h ix used
    → ((i : ℕ) → i < 64 → get_or out i 0 ≡ 0) → ((x y : ℕ) → x < 24 → y < 24 → cell joined x y ≡ bit (eqb x y)) → Keeping c nodes letters (held l w h used) values active 0 l w h ix used out joined
unfolding matrix_at
keeping_first {c} {nodes} {letters} {l} {w} {h} {ix} {used} {values} {active} {out} {joined} o zeros first = record {
  opened = o;
  extends = extends_refl _;
  kept_used = λ i hi. omega (arith, zeros i hi, open_three o);
  joined_used = λ x y hx hy. omega (arith, first x y hx hy, cond_le (eqb x y), open_three o);
  kept_is = λ i p s hi hp shows. absurd (omega arith);
  joined_is = λ x y p s hx hy hp shows. rw (first x y hx hy) (number_bit p (eqb x y)) ∙ ap bit (eqb_shift x y);
}
  where
    number_bit : (p : ℕ) (b : Bool) → number_at letters (held l w h used) (bit b) p ≡ bit b
    number_bit p true = number_first (held l w h used) p (open_few o) (open_sound o)
    number_bit p false = number_zeroth (held l w h used) p (open_few o) (open_sound o)

-- after the last
pub keeping_done : {c : Circuit} {nodes letters : ℕ} {t : Table} {values active : List ℕ} {i count : ℕ} {l w h ix : List ℕ} {used : ℕ} {out : List ℕ} {joined : List (List ℕ)} → Keeping c nodes letters t values active i l w h ix used out joined → count ≤ i
    → KeptLooped c nodes letters t values active count l w h ix used out
keeping_done s le = record { opened = s.opened; extends = s.extends; kept_used = s.kept_used; kept_is = λ i p z hi hp shows. s.kept_is i p z (omega arith) hp shows }

-- the loop over the transistors
pub record Going (c : Circuit) (nodes letters : ℕ) (t : Table) (values active : List ℕ) (l0 w0 h0 ix0 l w h ix : List ℕ) (used : ℕ) (out : List ℕ) (joined : List (List ℕ)) (i : ℕ) : Type 0 where
  pub long : length out ≡ 64
  pub letter_long : length l ≡ length l0
  pub low_long : length w ≡ length w0
  pub high_long : length h ≡ length h0
  pub index_long : length ix ≡ length ix0
  pub keeping : Keeping c nodes letters t values active i l w h ix used out joined

pub going_first : {c : Circuit} {nodes letters : ℕ} {l w h ix : List ℕ} {used : ℕ} {values active : List ℕ} {out : List ℕ} {joined : List (List ℕ)} → Open letters l w h ix used → length out ≡ 64
    → ((i : ℕ) → i < 64 → get_or out i 0 ≡ 0) → ((x y : ℕ) → x < 24 → y < 24 → cell joined x y ≡ bit (eqb x y)) → Going c nodes letters (held l w h used) values active l w h ix l w h ix used out joined 0
going_first o long zeros first = record {
  long = long;
  letter_long = refl;
  low_long = refl;
  high_long = refl;
  index_long = refl;
  keeping = keeping_first o zeros first;
}

-- a laid-out transistor is legal
module _ (net : List ℕ) (k : Laid (net_circuit net) net) (i : ℕ) (h : i < at net 1) where
  pub going_legal : Legal (net_circuit net) (at net 0) (net_transistor net i)
  going_legal = record {
    polarity_is = (k.within.transistor i h).polarity;
    gate_is = (k.within.transistor i h).gate;
    first_least = λ e. (laid_between net k i h e).0;
    second_least = λ e. (laid_between net k i h e).1;
  }

  -- and the label of its group is a place
  pub going_group : group_of (net_circuit net) (net_transistor net i) < 26
  going_group = by (is_inner c t.first) refl (is_inner c t.second) refl
    where
      c : Circuit
      c = net_circuit net

      t : Transistor
      t = net_transistor net i

      by : (a : Bool) → is_inner (net_circuit net) (net_transistor net i).first ≡ a → (b : Bool) → is_inner (net_circuit net) (net_transistor net i).second ≡ b → group_of (net_circuit net) (net_transistor net i) < 26
      by true ea b eb = subst (λ (z : ℕ). z < 26) (laid_by_first net k i h ea).0 (laid_by_first net k i h ea).1
      by false ea true eb = subst (λ (z : ℕ). z < 26) (laid_by_second net k i h ea eb).0 (laid_by_second net k i h ea eb).1
      by false ea false eb = subst (λ (z : ℕ). z < 26) (laid_no_group net k i h ea eb) (omega arith)

pub going_next : {c : Circuit} {nodes letters : ℕ} {l0 w0 h0 ix0 : List ℕ} {used0 : ℕ} {values active : List ℕ} {i : ℕ} {l w h ix : List ℕ} {used : ℕ} {out : List ℕ} {joined : List (List ℕ)}
    (o : Open letters l0 w0 h0 ix0 used0) (hv : AllUsed 26 values used0) (ht : AllUsed 26 active used0) (bits : Bits letters (held l0 w0 h0 used0) values (2 + nodes)) (few : nodes ≤ 24)
    (s : Going c nodes letters (held l0 w0 h0 used0) values active l0 w0 h0 ix0 l w h ix used out joined i)
    (t : Transistor) (te : transistor_at c i ≡ t) (legal : Legal c nodes t) (small : group_of c t < 26) {l1 w1 h1 ix1 : List ℕ} {p : Put}
    (g : Grown letters (held l w h used) (λ x. kept_number t.polarity (between_inner c t) (number_at letters (held l w h used) (get_or active (group_of c t) 0) x) (number_at letters (held l w h used) (get_or values t.gate 0) x) (number_at letters (held l w h used) (cell joined (t.first - 2) (t.second - 2)) x)) l1 w1 h1 ix1 p) (room : stopped p.stop ≡ false)
    {l2 w2 h2 ix2 : List ℕ} {used2 : ℕ} {next : List (List ℕ)}
    (m : Matrixed letters (held l1 w1 h1 p.used) (λ a b x. cond (between_inner c t) (linked_number (number_at letters (held l1 w1 h1 p.used) p.entry x) (number_at letters (held l1 w1 h1 p.used) (cell joined a b) x) (number_at letters (held l1 w1 h1 p.used) (cell joined a (t.first - 2)) x) (number_at letters (held l1 w1 h1 p.used) (cell joined (t.second - 2) b) x) (number_at letters (held l1 w1 h1 p.used) (cell joined a (t.second - 2)) x) (number_at letters (held l1 w1 h1 p.used) (cell joined (t.first - 2) b) x)) (number_at letters (held l1 w1 h1 p.used) (cell joined a b) x)) l2 w2 h2 ix2 used2 next)
    → i < 64 → length l2 ≡ length l → length w2 ≡ length w → length h2 ≡ length h → length ix2 ≡ length ix
    → Going c nodes letters (held l0 w0 h0 used0) values active l0 w0 h0 ix0 l2 w2 h2 ix2 used2 (set out i p.entry) next (i + 1)
going_next {i = i} {out = out} o hv ht bits few s t te legal small {p = p} g room m hi a b c d = record {
  long = length-set out i p.entry ∙ s.long;
  letter_long = a ∙ s.letter_long;
  low_long = b ∙ s.low_long;
  high_long = c ∙ s.high_long;
  index_long = d ∙ s.index_long;
  keeping = keeping_next o hv ht bits few s.keeping t te legal small g room m s.long hi;
}

-- A loop down the diagonal: x places are 1, and the rows are as long as they were.
pub record Diagonal (out : List (List ℕ)) (x : ℕ) : Type 0 where
  pub long : length out ≡ 24
  pub rows : (a : ℕ) → a < 24 → length (get_or out a []) ≡ 24
  pub cells : (a b : ℕ) → a < 24 → b < 24 → cell out a b ≡ bit (ltb a x && eqb a b)

pub diagonal_first : {out : List (List ℕ)} → length out ≡ 24 → ((a : ℕ) → a < 24 → get_or out a [] ≡ replicate 24 0) → Diagonal out 0
diagonal_first {out} long rows = record {
  long = long;
  rows = λ a ha. ap length (rows a ha) ∙ length-replicate {A = ℕ} 24 0;
  cells = λ a b ha hb. ap (λ (r : List ℕ). get_or r b 0) (rows a ha) ∙ get_or-replicate {A = ℕ} 24 b 0 0 hb ∙ sym (ap (λ (z : Bool). bit (z && eqb a b)) (le-ltb a 0 (omega arith)));
}

pub diagonal_next : {out : List (List ℕ)} {x : ℕ} → Diagonal out x → x < 24 → Diagonal (set out x (set (get_or out x []) x 1)) (x + 1)
diagonal_next {out} {x} s lt = record {
  long = length-set out x (set (get_or out x []) x 1) ∙ s.long;
  rows = λ a ha.
      ⊎_elim
      (λ (e : a ≡ x). rw (e, get_or-set_same out x (set (get_or out x []) x 1) [] (omega (arith, s.long))) (length-set (get_or out x []) x 1 ∙ s.rows x lt))
      (λ (ne : a ≡ x → ⊥). rw (get_or-set_other out x a (set (get_or out x []) x 1) [] ne) (s.rows a ha))
      (eq_or_ne a x);
  cells = λ a b ha hb.
      ⊎_elim
      (λ (e : a ≡ x).
      rw (e, get_or-set_same out x (set (get_or out x []) x 1) [] (omega (arith, s.long)), lt-ltb x (x + 1) (omega arith))
      (⊎_elim
      (λ (f : b ≡ x). rw (f, get_or-set_same (get_or out x []) x 1 0 (omega (arith, s.rows x lt)), eq-eqb x x refl))
      (λ (ne : b ≡ x → ⊥).
      get_or-set_other (get_or out x []) x b 1 0 ne ∙ s.cells x b lt hb ∙ ap bit (ap (λ (z : Bool). z && eqb x b) (le-ltb x x (omega arith)) ∙ sym (ne_eqb x b (λ z. ne (sym z)))))
      (eq_or_ne b x)))
      (λ (ne : a ≡ x → ⊥).
      rw (get_or-set_other out x a (set (get_or out x []) x 1) [] ne) (s.cells a b ha hb ∙ ap (λ (z : Bool). bit (z && eqb a b)) (up_other x a ne)))
      (eq_or_ne a x);
}

pub diagonal_done : {out : List (List ℕ)} {x : ℕ} → Diagonal out x → 24 ≤ x → (a b : ℕ) → a < 24 → b < 24 → cell out a b ≡ bit (eqb a b)
diagonal_done {x = x} s le a b ha hb = s.cells a b ha hb ∙ ap (λ (z : Bool). bit (z && eqb a b)) (lt-ltb a x (omega arith))

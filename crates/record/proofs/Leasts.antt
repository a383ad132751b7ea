-- Laws of the column of least numbers: what it says, and the tables that it stays right for.
use mathlib.Core.Path.{◌≡◌, refl, sym, ◌∙◌, ap₂}
use mathlib.Core.Logic.{⊎_elim}
use mathlib.Core.List.{List, ◌∷◌}
use Prim.Native.Nat.{ℕ, zero, suc, ◌+◌, ◌<◌, ◌≤◌, min}
use native.Mathlib.Omega.{arith}
use lib.ListN.{length, get_or, set, length-set}
use lib.Seq.{get_or-set_same, get_or-set_other}
use lib.Pow.{pow_pos}
use Rattle.lists.proofs.Cases.{lt_or_ge}
use Rattle.diagram.specs.Pattern.{most_letters, patterns}
use Rattle.diagram.specs.Table.{Table, never, terminal_letter, number_at}
use Rattle.diagram.proofs.Sound.{Sound}
use Rattle.diagram.specs.Extends.{Extends}
use Rattle.diagram.proofs.Number.{number_at_extends, number_zeroth, number_first, number_second}
use Rattle.rules.proofs.Time.{least_below_lem, least_own, least_same}
use Rattle.functions.specs.Open.{Legible}
use Rattle.functions.proofs.Branches.{low_earlier, high_earlier}
use Rattle.diagram.specs.Held.{held}
use Rattle.record.specs.Numbers.{least_of, least_among, least_listed}
use Rattle.record.specs.Leasts.{Leasts}
use Rattle.record.proofs.Entry.{least_branch}

-- nothing filled in
pub leasts_none : (k : ℕ) (t : Table) (least : List ℕ) → Leasts k t 0 least
leasts_none k t least = record { within = omega arith; is = λ e h. absurd (omega arith) }

-- an entry of one number: it is the least
only_least : (k : ℕ) (t : Table) (e x : ℕ) → x ≤ never → ((p : ℕ) → number_at k t e p ≡ x) → x ≡ least_of k t e
only_least k t e x most same =
    let own = least_own (patterns k) (number_at k t e) (pow_pos k) (λ p. omega (arith, same p)) in
    sym (own.2 ∙ same own.0)

-- the first three entries are their own numbers
pub leasts_three : {k : ℕ} {t : Table} → k ≤ most_letters → Sound k t → (least : List ℕ) → 3 ≤ length least
    → get_or least 0 0 ≡ 0 → get_or least 1 0 ≡ 1 → get_or least 2 0 ≡ never → Leasts k t 3 least
leasts_three {k} {t} few s least long a b c = record { within = long; is = at }
  where
    at : (e : ℕ) → e < 3 → get_or least e 0 ≡ least_of k t e
    at zero h = a ∙ only_least k t 0 0 (omega arith) (λ p. number_zeroth t p few s)
    at (suc zero) h = b ∙ only_least k t 1 1 (omega arith) (λ p. number_first t p few s)
    at (suc (suc zero)) h = c ∙ only_least k t 2 never (omega arith) (λ p. number_second t p few s)
    at (suc (suc (suc e))) h = absurd (omega arith)

pub leasts_first : {k : ℕ} {t : Table} → k ≤ most_letters → Sound k t → (rest : List ℕ) → Leasts k t 3 (0 ∷ 1 ∷ never ∷ rest)
leasts_first few s rest = leasts_three few s (0 ∷ 1 ∷ never ∷ rest) (omega arith) refl refl refl

module _ {k : ℕ} {t : Table} {d : ℕ} {least : List ℕ} (g : Leasts k t d least) where
  -- the column is as long
  pub leasts_within : d ≤ length least
  leasts_within = g.within

  -- fewer entries
  pub leasts_less : {d' : ℕ} → d' ≤ d → Leasts k t d' least
  leasts_less h = record { within = omega (arith, g.within); is = λ e i. g.is e (omega arith) }

  -- a table whose entries have the same numbers
  pub leasts_same : {u : Table} → ((e p : ℕ) → e < d → number_at k u e p ≡ number_at k t e p) → Leasts k u d least
  leasts_same {u} same = record {
    within = g.within;
    is = λ e i. g.is e i ∙ least_same (patterns k) (number_at k t e) (number_at k u e) (λ p _. sym (same e p i));
  }

  -- a table that the first one begins
  pub leasts_extends : {u : Table} → k ≤ most_letters → Sound k t → Extends t u → d ≤ length t → Leasts k u d least
  leasts_extends few s x long = leasts_same (λ e p i. number_at_extends e p few s x (omega arith))

  -- no number of an entry is smaller
  pub leasts_below : (e p : ℕ) → e < d → p < patterns k → get_or least e 0 ≤ number_at k t e p
  leasts_below e p i h = omega (arith, g.is e i, least_below_lem (patterns k) (number_at k t e) p h)

  -- a smaller number is taken at no pattern
  pub leasts_untaken : (e time p : ℕ) → time < get_or least e 0 → e < d → p < patterns k → number_at k t e p ≡ time → ⊥
  leasts_untaken e time p l i h q = omega (arith, leasts_below e p i h)

  -- the least of some entries
  pub leasts_among : (es : List ℕ) (n : ℕ) → ((i : ℕ) → i < n → get_or es i 0 < d) → least_listed least es n ≡ least_among k t es n
  leasts_among es n small = least_same n (λ i. get_or least (get_or es i 0) 0) (λ i. least_of k t (get_or es i 0)) (λ i l. g.is (get_or es i 0) (small i l))

  -- one more entry
  pub leasts_next : {x : ℕ} → x ≡ least_of k t d → d < length least → Leasts k t (d + 1) (set least d x)
  leasts_next {x} own room = record {
    within = omega (arith, length-set least d x);
    is = λ e i.
        ⊎_elim
        (λ (l : e < d). get_or-set_other least d e x 0 (omega arith) ∙ g.is e l)
        (λ (l : d ≤ e).
        let same : e ≡ d = omega arith in
        rw same (get_or-set_same least d x 0 room ∙ own))
        (lt_or_ge e d);
  }

-- a branch: the smaller of its parts' numbers
pub leasts_branch : {k : ℕ} {l w h : List ℕ} {used : ℕ} (o : Legible k l w h used) (e : ℕ) (i : e < used) → (get_or l e 0 ≡ terminal_letter → ⊥)
    → {least : List ℕ} → Leasts k (held l w h used) e least → min (get_or least (get_or w e 0) 0) (get_or least (get_or h e 0) 0) ≡ least_of k (held l w h used) e
leasts_branch {k} {l} {w} {h} {used} o e i node {least} g =
    ap₂ min (g.is (get_or w e 0) (low_earlier o e i node)) (g.is (get_or h e 0) (high_earlier o e i node)) ∙ least_branch o e i node

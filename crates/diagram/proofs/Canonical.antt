-- Two entries of a sound table are one where their numbers agree.
use mathlib.Core.Path.{◌≡◌, refl, sym, ◌∙◌, ap}
use mathlib.Core.Logic.{◌↔◌}
use Prim.Native.Nat.{ℕ, ◌+◌, ◌^◌, ◌<◌, ◌≤◌}
use native.Mathlib.Nat.{add-zero}
use native.Mathlib.Omega.{arith}
use lib.ListN.{length}
use Rattle.diagram.specs.Pattern.{most_letters, patterns}
use Rattle.diagram.specs.Table.{Table, entry_at, number_from, number_at}
use Rattle.diagram.specs.Store.{Stored}
use Rattle.diagram.proofs.Sound.{Sound}
use Rattle.diagram.proofs.Store.{store_present}

-- over the n letters from letter k on, for entries that begin there
pub canonical_from : {letters : ℕ} (n k : ℕ) (t : Table) (a b : ℕ) → letters ≤ most_letters → Sound letters t → n + k ≡ letters
    → a < length t → b < length t → k ≤ (entry_at t a).letter → k ≤ (entry_at t b).letter
    → ((p : ℕ) → p < 2 ^ n → number_from n k t a p ≡ number_from n k t b p) → a ≡ b
canonical_from n k t a b few s sum ha hb ka kb same =
    ap (λ (c : Stored). c.entry) (sym (store_present n k (number_from n k t b) t a few s sum ha ka same) ∙ store_present n k (number_from n k t b) t b few s sum hb kb (λ p h. refl))

-- over all letters, both ways
pub canonical : {letters : ℕ} (t : Table) (a b : ℕ) → letters ≤ most_letters → Sound letters t → a < length t → b < length t
    → ((p : ℕ) → p < patterns letters → number_at letters t a p ≡ number_at letters t b p) ↔ (a ≡ b)
canonical {letters} t a b few s ha hb =
    (λ same. canonical_from letters 0 t a b few s (add-zero letters) ha hb (omega arith) (omega arith) same, λ e p h. ap (λ (i : ℕ). number_at letters t i p) e)

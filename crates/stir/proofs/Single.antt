-- One node: an input has no next change, an inner node has its own, in one of two ways.
use mathlib.Core.Path.{◌≡◌, refl, sym}
use mathlib.Core.List.{List}
use mathlib.Core.Bool.{Bool, true, false, cond, true≢false}
use Prim.Native.Nat.{ℕ}
use Rattle.diagram.specs.Table.{Table, never}
use Rattle.diagram.specs.Store.{store}
use Rattle.diagram.specs.Held.{held}
use Rattle.table.specs.declared.Put.{Put}
use Rattle.table.specs.declared.Stop.TheVariants.{Going}
use Rattle.table.specs.Holds.{Outcome}
use Rattle.table.proofs.Outcomes.{put}
use Rattle.functions.specs.Open.{Open}
use Rattle.rules.specs.Run.{never_entry}
use Rattle.values.proofs.Single.{never_outcome}

pub outer_put : {k : ℕ} {l w h ix : List ℕ} {used : ℕ} → Open k l w h ix used → (inner : Bool) (f : ℕ → ℕ) → inner ≡ false
    → Outcome (held l w h used) (store k 0 (λ p. cond inner (f p) never) (held l w h used)) l w h ix (put Going never_entry used)
outer_put o true f e = absurd (true≢false e)
outer_put o false f e = never_outcome o (λ _. never) (λ p _. refl)

pub inner_put : (k : ℕ) {t : Table} {l w h ix : List ℕ} {r : Put} (inner : Bool) (f : ℕ → ℕ) → inner ≡ true → Outcome t (store k 0 f t) l w h ix r
    → Outcome t (store k 0 (λ p. cond inner (f p) never) t) l w h ix r
inner_put k true f e o = o
inner_put k false f e o = absurd (true≢false (sym e))

-- one function or another
pub first_put : (k : ℕ) {t : Table} {l w h ix : List ℕ} {r : Put} (one : Bool) (f g : ℕ → ℕ) → one ≡ true → Outcome t (store k 0 f t) l w h ix r
    → Outcome t (store k 0 (λ p. cond one (f p) (g p)) t) l w h ix r
first_put k true f g e o = o
first_put k false f g e o = absurd (true≢false (sym e))

pub second_put : (k : ℕ) {t : Table} {l w h ix : List ℕ} {r : Put} (one : Bool) (f g : ℕ → ℕ) → one ≡ false → Outcome t (store k 0 g t) l w h ix r
    → Outcome t (store k 0 (λ p. cond one (f p) (g p)) t) l w h ix r
second_put k true f g e o = absurd (true≢false e)
second_put k false f g e o = o

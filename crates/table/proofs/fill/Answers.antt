use mathlib.Core.Path.{sym, ◌∙◌, subst}
use Prim.Native.Nat.{ℕ}
use native.Mathlib.Omega.{arith}
use Rattle.table.proofs.Judge.{Filling, filled_illegal, filled_twin, filled_all}
use Rattle.table.proofs.fill.Goals as goal

pub returns-then-not-entry_legal : goal.returns-then-not-entry_legal
returns-then-not-entry_legal c = filled_illegal _ c.args.letter.now c.args.low.now c.args.high.now _ c.requires.0.sized.low_long c.requires.0.sized.high_long c.requires.1 _ _ c.loop-i-test.true (sym c.entry_legal.ensures ∙ c.if-not-entry_legal.true)

pub returns-then-not-enter : goal.returns-then-not-enter
returns-then-not-enter c =
    let twin = c.enter.ensures.twin c.if-not-enter.true in filled_twin _ c.args.letter.now c.args.low.now c.args.high.now _ c.requires.0.sized.low_long c.requires.0.sized.high_long c.requires.1 _ _ twin.0 c.loop-i-test.true twin.1 twin.2

pub returns : goal.returns
returns c = filled_all _ c.args.letter.now c.args.low.now c.args.high.now _ c.requires.0.sized.low_long c.requires.0.sized.high_long c.requires.1 _ (subst (λ (n : ℕ). Filling c.args.letters c.args.letter.now c.args.low.now c.args.high.now n c.loop-i.index) (omega arith) c.loop-i.invariant)

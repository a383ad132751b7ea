-- `is_arm` compares before it reads the flag.
use mathlib.Core.Path.{sym, ◌∙◌, ap}
use mathlib.Core.Bool.{and-false, and-true}
use Prim.Native.Nat.{ℕ}
use lib.Dec.{eqb}
use borrow.Author.Tests.{eq-eqb, ne_eqb}
use Rattle.plain.specs.Leaf.{is_kept}
use Rattle.plain.proofs.Cell.{from_is}
use Rattle.plain.proofs.reads.is_arm.Goals as goal

pub returns-then-i-from : goal.returns-then-i-from
returns-then-i-from c = rw (from_is c.args.from c.args.i c.requires.i_bound, eq-eqb c.args.i c.args.from c.if-i-from.true) (sym (and-false (is_kept c.args.leaf.now c.args.i)))

pub returns : goal.returns
returns c = rw (from_is c.args.from c.args.i c.requires.i_bound, ne_eqb c.args.i c.args.from c.if-i-from.false) (ap (λ (r : ℕ). eqb r 1) c.read.ensures ∙ sym (and-true (is_kept c.args.leaf.now c.args.i)))

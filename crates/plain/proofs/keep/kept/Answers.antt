-- `keep::kept` meets its contract. Assumes nothing.
use Prim.Native.Nat.{ℕ}
use mathlib.Core.Path.{◌∙◌}
use lib.ListN.{replicate, length-replicate}
use Rattle.plain.proofs.Leaves.{own_labels, leaf_kept}
use Rattle.plain.proofs.Pieces.{pieces_parted}
use borrow.Author.Rules.{rules}
use Rattle.net.specs.Roots.{leaf_length}
use Rattle.plain.proofs.keep.kept.Goals as goal

pub keep_all-requires : goal.keep_all-requires
keep_all-requires c =
    let copy = c.copy in
    let start = c.start in
    record { laid = c.requires.laid; column = (c.requires.column, copy.ensures.rest.long ∙ length-replicate {A = ℕ} leaf_length 0, start.ensures.rest.long ∙ length-replicate {A = ℕ} 26 0, own_labels (replicate 26 0) start.new.column start.ensures) }

pub returns : goal.returns
returns c =
    let copy = c.copy in
    let all = c.keep_all in (
      leaf_kept c.args.net.now c.args.values.now copy.new.leaf all.new.leaf all.new.labels copy.ensures all.ensures,
      pieces_parted c.args.net.now c.args.values.now all.new.labels (search rules) all.ensures,
    )

-- `cross`: off, to a driven end, to an inner node.
use mathlib.Core.Path.{sym, ◌∙◌}
use borrow.Author.Tests.{ne_eqb}
use Rattle.descent.proofs.Search.{far_marked, cross_room, cross_driven, cross_noted}
use Rattle.descent.proofs.piece.cross.Goals as goal

pub returns-then-is_driven : goal.returns-then-is_driven
returns-then-is_driven c =
    let both = cross_driven c.requires.net c.requires.found c.args.roots.now c.args.x c.args.i c.far_end-y.result c.requires.i_bound c.far_end-y.ensures (sym c.is_driven.ensures ∙ c.if-is_driven.true) in
    record { searched = both.0; crossed = both.1 }

pub note-requires : goal.note-requires
note-requires c = record { y_bound = far_marked c.requires.net c.requires.found c.args.roots.now c.args.x c.args.i c.far_end-y.result c.requires.i_bound c.far_end-y.ensures; count_bound = cross_room c.requires.net c.requires.found c.args.roots.now c.args.x c.args.i c.far_end-y.result c.requires.i_bound c.far_end-y.ensures }

pub returns : goal.returns
returns c =
    let both = cross_noted c.requires.net c.requires.found c.args.roots.now c.args.x c.args.i c.far_end-y.result c.requires.i_bound c.far_end-y.ensures (ne_eqb _ _ c.if-roots-at-eq0.false) (sym c.is_driven.ensures ∙ c.if-is_driven.false) c.note.ensures.value c.note.ensures.marks_after c.note.ensures.found_after in
    record { searched = both.0; crossed = both.1 }

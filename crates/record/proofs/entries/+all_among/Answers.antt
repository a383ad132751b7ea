use mathlib.Core.Path.{◌∙◌}
use native.Mathlib.Omega.{arith}
use Rattle.functions.proofs.Branches.{low_earlier, high_earlier}
use Rattle.record.proofs.Entry.{among_leaf, among_high, among_low}
use Rattle.record.proofs.entries.+all_among.Goals as goal

pub returns-then-letter-i : goal.returns-then-letter-i
returns-then-letter-i t c = c.among.ensures ∙ among_leaf c.requires.0 c.args.e c.requires.1 c.if-letter-i.true _ _ _

pub all_among-requires : goal.all_among-requires
all_among-requires t c =
    let less = low_earlier c.requires.0 c.args.e c.requires.1 c.if-letter-i.false in
    (omega arith, (c.requires.0, omega arith))

pub all_among-requires-then-all_among : goal.all_among-requires-then-all_among
all_among-requires-then-all_among t c =
    let less = high_earlier c.requires.0 c.args.e c.requires.1 c.if-letter-i.false in
    (omega arith, (c.requires.0, omega arith))

pub returns-then-all_among : goal.returns-then-all_among
returns-then-all_among t c = among_high c.requires.0 c.args.e c.requires.1 c.if-letter-i.false _ _ _ c.all_among.ensures c.if-all_among.true c.all_among-then-all_among.ensures

pub returns-else-all_among : goal.returns-else-all_among
returns-else-all_among t c = c.if-all_among.false ∙ among_low c.requires.0 c.args.e c.requires.1 c.if-letter-i.false _ _ _ c.all_among.ensures c.if-all_among.false

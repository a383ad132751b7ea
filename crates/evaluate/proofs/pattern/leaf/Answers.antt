-- `leaf`: the entries are terminals, and their numbers are those of every pattern.
use Rattle.evaluate.proofs.Entries.{evaluable_entries, leaf_numbers_are, leaf_stored}
use Rattle.evaluate.proofs.pattern.leaf.Goals as goal

pub leaf_numbers-numbers-requires : goal.leaf_numbers-numbers-requires
leaf_numbers-numbers-requires c = evaluable_entries c.requires.1 c.requires.2 _ c.requires.1.legible.low_long

pub by_numbers-v-requires : goal.by_numbers-v-requires
by_numbers-v-requires c = (c.requires.0, leaf_numbers_are c.requires.1 c.requires.2 c.leaf_numbers-numbers.ensures)

pub returns : goal.returns
returns c = leaf_stored c.requires.1 c.requires.2 c.leaf_numbers-numbers.ensures _ _ _ _ _ c.by_numbers-v.ensures c.add.ensures

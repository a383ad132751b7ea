-- `value_after`: an input, or an inner node.
use Rattle.plain.proofs.arrive.value_after.Goals as goal

pub is_input-requires : goal.is_input-requires
is_input-requires c = (c.requires.0.long, c.requires.0.within, c.requires.1)

pub input_value-requires : goal.input_value-requires
input_value-requires c = c.requires.0

pub returns-then-is_input : goal.returns-then-is_input
returns-then-is_input c = rw (← c.is_input.ensures, c.if-is_input.true) c.input_value.ensures

pub flipped-requires : goal.flipped-requires
flipped-requires c = c.requires.2

pub returns : goal.returns
returns c = rw (← c.is_input.ensures, c.if-is_input.false) c.flipped.ensures

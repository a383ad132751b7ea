-- `value_after` meets its contract. Assumes nothing.
use mathlib.Core.Path.{sym, ◌∙◌}
use Rattle.net.specs.Net.{net_circuit}
use Rattle.values.proofs.Arriving.{whole_operand, value_input, value_inner}
use Rattle.values.proofs.arrive.value_after.Goals as goal

pub is_input-requires : goal.is_input-requires
is_input-requires c = (c.requires.laid.0.long, c.requires.laid.0.within, c.requires.n_bound.0)

pub input_value-requires : goal.input_value-requires
input_value-requires c = (c.requires.laid.0, c.requires.laid.1, c.requires.n_bound.1)

pub returns-then-is_input : goal.returns-then-is_input
returns-then-is_input c = value_input c.requires.laid.1 (net_circuit c.args.net.now) c.args.time c.args.n c.args.value c.args.change (sym c.is_input.ensures ∙ c.if-is_input.true) c.input_value.ensures

pub flip-requires : goal.flip-requires
flip-requires c = record { fact = c.requires.laid.1; operand = (whole_operand c.requires.laid.1 c.args.value c.requires.n_bound.1, whole_operand c.requires.laid.1 c.args.change c.requires.n_bound.2); leasts = c.requires.leasts }

pub returns : goal.returns
returns c = value_inner c.requires.laid.1 (net_circuit c.args.net.now) c.args.time c.args.n c.args.value c.args.change (sym c.is_input.ensures ∙ c.if-is_input.false) c.flip.ensures

-- `input_value` meets its contract. Assumes nothing.
use Rattle.net.specs.Net.{net_circuit}
use Rattle.values.proofs.Arriving.{input_stays, input_takes}
use Rattle.values.proofs.arrive.input_value.Goals as goal

pub returns-then-byte-eq-NONE : goal.returns-then-byte-eq-NONE
returns-then-byte-eq-NONE c = input_stays c.requires.1 (net_circuit c.args.net.now) c.args.time c.args.n c.args.value c.requires.2 c.source_at-byte.ensures c.if-byte-eq-NONE.true

pub source-requires : goal.source-requires
source-requires c = (c.requires.1, c.source_at-byte.ensures.legal c.if-byte-eq-NONE.false)

pub returns : goal.returns
returns c = input_takes c.requires.1 (net_circuit c.args.net.now) c.args.time c.args.n c.args.value c.source_at-byte.ensures c.if-byte-eq-NONE.false c.source.ensures

-- `put_file` meets its contract: header, nodes, transistors and schedule, one behind the other.
use mathlib.Core.Path.{◌∙◌, ap}
use Prim.Native.Nat.{◌+◌}
use native.Mathlib.Omega.{arith}
use lib.ListN.{length}
use borrow.Author.Rules.{rules}
use Rattle.format.specs.Circuit.{no_node, no_transistor}
use Rattle.format.specs.Saved.{node_bytes, transistor_bytes}
use Rattle.format.proofs.SavedRecord.{header_bytes_length, node_bytes_length, transistor_bytes_length}
use Rattle.text.proofs.Written.{wrote_length}
use Rattle.writer.proofs.Parts.{chain_end, file_written}
use Rattle.writer.proofs.put_file.Goals as goal

pub put_chain-fourth-requires : goal.put_chain-fourth-requires
put_chain-fourth-requires c =
    let h = c.args.cell.header in
    let w = c.put_bytes-second.ensures in
    let l = wrote_length w (search rules) in
    let n = chain_end node_bytes node_bytes_length 1 h.nodes no_node c.args.cell.nodes c.put_chain-third.ensures (search rules) in
    (omega arith, (search rules, search rules, omega (arith, n.0, n.1, l, w.end_is, c.requires.1)))

pub put_chain-requires : goal.put_chain-requires
put_chain-requires c =
    let h = c.args.cell.header in
    let f = ap length c.header_bytes-first.ensures ∙ header_bytes_length h in
    let w = c.put_bytes-second.ensures in
    let l = wrote_length w (omega (arith, f, c.requires.1)) in
    let n = chain_end node_bytes node_bytes_length 1 h.nodes no_node c.args.cell.nodes c.put_chain-third.ensures (omega (arith, f, l, w.end_is, c.requires.1)) in
    let t = chain_end transistor_bytes transistor_bytes_length (1 + h.nodes) h.transistors no_transistor c.args.cell.transistors c.put_chain-fourth.ensures (omega (arith, f, l, n.0, n.1, w.end_is, c.requires.1)) in
    (omega arith, (c.requires.0.entries, omega (arith, c.requires.0.nodes, c.requires.0.transistors, c.requires.0.entries), omega (arith, f, n.0, n.1, t.0, t.1, l, w.end_is, c.requires.1)))

pub returns : goal.returns
returns c = file_written c.args.cell c.header_bytes-first.ensures c.put_bytes-second.ensures c.put_chain-third.ensures c.put_chain-fourth.ensures c.put_chain.ensures

-- `reader::read_chains` meets its contract: a chain that is not found ends the reading, and three that are found are what `read_fields` reads. Assumes nothing.
use Rattle.std.proofs.Common.{sym, ap, ◌∙◌, arith}
use Rattle.records.proofs.Linked.{chain_none, chain_some, found_inside}
use Rattle.cell.specs.Value.{reading}
use Rattle.cell.proofs.Read.{node_chain, transistor_chain, entry_chain, no_nodes, no_transistors, no_entries_lem, all_chains}
use Rattle.cell.proofs.reader.read_chains.Goals as goal

pub returns-in_default : goal.returns-in_default
unfolding reading
returns-in_default c = sym (ap reading (no_nodes _ _ (chain_none _ c.in_default.ensures)))

pub returns-in_default-chain_from : goal.returns-in_default-chain_from
unfolding reading
returns-in_default-chain_from c =
    let nodes = chain_some (node_chain c.args.file.now c.args.header) _ c.in-Some.ensures in
    sym (ap reading (no_transistors _ _ nodes (chain_none _ c.in_default-chain_from.ensures)))

pub returns-in_default-chain_from-2 : goal.returns-in_default-chain_from-2
unfolding reading
returns-in_default-chain_from-2 c =
    let nodes = chain_some (node_chain c.args.file.now c.args.header) _ c.in-Some.ensures in
    let transistors = chain_some (transistor_chain c.args.file.now c.args.header) _ c.in-Some-chain_from.ensures in
    sym (ap reading (no_entries_lem _ _ nodes transistors (chain_none _ c.in_default-chain_from-2.ensures)))

pub read_fields-requires : goal.read_fields-requires
read_fields-requires c =
    let full = c.requires in
    record {
      full = full;
      nodes = found_inside _ _ _ _ _ _ (chain_some (node_chain c.args.file.now c.args.header) _ c.in-Some.ensures) (omega (arith, full.long));
      transistors = found_inside _ _ _ _ _ _ (chain_some (transistor_chain c.args.file.now c.args.header) _ c.in-Some-chain_from.ensures) (omega (arith, full.long));
      entries = found_inside _ _ _ _ _ _ (chain_some (entry_chain c.args.file.now c.args.header) _ c.in-Some-chain_from-2.ensures) (omega (arith, full.long));
    }

pub returns : goal.returns
returns c =
    let nodes = chain_some (node_chain c.args.file.now c.args.header) _ c.in-Some.ensures in
    let transistors = chain_some (transistor_chain c.args.file.now c.args.header) _ c.in-Some-chain_from.ensures in
    let entries = chain_some (entry_chain c.args.file.now c.args.header) _ c.in-Some-chain_from-2.ensures in
    c.read_fields.ensures ∙ sym (ap reading (all_chains _ _ nodes transistors entries))

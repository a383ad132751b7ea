-- `write_record` writes the time, the used count and two parts over the column. Assumes nothing.
use mathlib.Core.Path.{◌∙◌, sym}
use Rattle.editor.proofs.Column.{values_room, as_long, changes_room, record_written}
use Rattle.editor.proofs.runs.write_record.Goals as goal

pub write_entries-requires : goal.write_entries-requires
write_entries-requires c = values_room c.args.«record».now c.args.r.time c.args.r.used c.requires

pub write_entries-requires-2 : goal.write_entries-requires-2
write_entries-requires-2 c =
    let first = c.write_entries in
    changes_room first.new.record (as_long c.args.«record».now first.new.record c.args.r.time c.args.r.used c.requires first.auto.record)

pub shape_of-record : goal.shape_of-record
shape_of-record c =
    let first = c.write_entries in
    c.write_entries-2.auto.record ∙ as_long c.args.«record».now first.new.record c.args.r.time c.args.r.used c.requires first.auto.record ∙ sym c.requires

pub returns : goal.returns
returns c =
    let first = c.write_entries in
    let second = c.write_entries-2 in
    let long = as_long c.args.«record».now first.new.record c.args.r.time c.args.r.used c.requires first.auto.record in
    record_written c.args.«record».now first.new.record second.new.record c.args.r.values c.args.r.changes c.args.r.time c.args.r.used c.requires first.ensures long second.ensures

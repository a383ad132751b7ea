-- The run record as a value, and as the definitions see it.
use Rattle.std.specs.Prelude.{length, take}
use Rattle.lists.specs.Padded.{padded}
use Rattle.format.specs.Circuit.{Circuit}
use Rattle.format.specs.Legal.{most_nodes}
use Rattle.rules.specs.Run as defined
use Rattle.record.specs.declared.Run.{Run}

-- the run that a value states of a cell: an entry for each node record; places past them are not looked at
abbrev pub run_of : Circuit → Run → defined.Run
run_of c r = record {
  time = r.time;
  used = r.used;
  values = take (length c.nodes) r.values;
  changes = take (length c.nodes) r.changes;
}

-- the value of a run: its places past the node records are zero
abbrev pub record_of : defined.Run → Run
record_of r = record {
  time = r.time;
  used = r.used;
  values = padded most_nodes 0 r.values;
  changes = padded most_nodes 0 r.changes;
}

-- What the functions over a cell's places ask of its header: the counts are within its places, the letters within their limit.
use Rattle.std.specs.Prelude.{◌≤◌}
use Rattle.format.specs.declared.Header.{Header}
use Rattle.format.specs.Legal.{most_nodes, most_transistors, most_entries, most_letters}

pub record Counted (h : Header) : Type 0 where
  pub nodes : h.nodes ≤ most_nodes
  pub transistors : h.transistors ≤ most_transistors
  pub entries : h.entries ≤ most_entries
  pub letters : h.letters ≤ most_letters

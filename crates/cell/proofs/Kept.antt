-- A header whose limits are kept is counted.
use mathlib.Core.Path.{◌≡◌}
use mathlib.Core.Bool.{true}
use Rattle.format.specs.declared.Header.{Header}
use Rattle.format.specs.Legal.{limits_kept}
use Rattle.format.proofs.Legal.{legal_header}
use Rattle.cell.specs.Counted.{Counted}

pub counted : (h : Header) → limits_kept h ≡ true → Counted h
counted h e =
    let l = legal_header h e in
    record { nodes = l.most_nodes_lem; transistors = l.most_transistors_lem; entries = l.most_entries_lem; letters = l.most_letters_lem }

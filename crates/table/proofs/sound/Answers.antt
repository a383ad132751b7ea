-- Each test is a part of the definition; a table that passes them all is in the index.
use Rattle.std.proofs.Common.{◌≡◌, ◌≤◌, true, length, arith, sym, ◌∙◌}
use Rattle.std.proofs.lemmas.Grind.{common_steps}
use Rattle.diagram.specs.Held.{entries}
use Rattle.table.specs.Steps.{three_terminals}
use Rattle.table.proofs.Entering.{ready_none}
use Rattle.table.proofs.Judge.{judged_outside, judged_terminals, judged_entries, judged_blank}
use Rattle.table.proofs.sound.Goals as goal
use Rattle.table.proofs.sound.Goals.{then-contains, else-contains, then-three_terminals, else-three_terminals}

pub fill-requires : goal.fill-requires
fill-requires c = (ready_none c.requires.0 c.requires.1, grind (arith, common_steps))

pub returns-then-fill : goal.returns-then-fill
returns-then-fill c =
    let a = c.args in
    elim c.if-three_terminals.branch [
      | then-three_terminals w ↦
          let three : 3 ≤ a.used = grind (arith, common_steps) in
          let fits : a.used ≤ length a.letter.now = grind (arith, common_steps) in
          let fixed : three_terminals (entries a.letter.now a.low.now a.high.now) ≡ true = grind (arith, common_steps) in
          rw w.index-is (judged_blank a.letters a.letter.now a.low.now a.high.now a.used _ _ c.requires.0 three fits fixed _ _ w.fill.ensures (sym w.value-is ∙ c.if-fill.true) c.blank_from.ensures)
      | else-three_terminals w ↦ grind (arith, common_steps)
    ]

pub returns-else-fill : goal.returns-else-fill
returns-else-fill c =
    let a = c.args in
    rw c.if-fill.false
    (elim c.if-three_terminals.branch [
      | then-three_terminals w ↦
          let three : 3 ≤ a.used = grind (arith, common_steps) in
          let fits : a.used ≤ length a.letter.now = grind (arith, common_steps) in
          let fixed : three_terminals (entries a.letter.now a.low.now a.high.now) ≡ true = grind (arith, common_steps) in
          judged_entries a.letters a.letter.now a.low.now a.high.now a.used _ _ c.requires.0 three fits fixed _ (rw w.index-is w.fill.ensures) (sym w.value-is ∙ c.if-fill.false)
      | else-three_terminals w ↦
          elim c.if-contains.branch [
            | then-contains v ↦
                let three : 3 ≤ a.used = grind (arith, common_steps) in
                let fits : a.used ≤ length a.letter.now = grind (arith, common_steps) in
                judged_terminals a.letters a.letter.now a.low.now a.high.now a.used _ _ c.requires.0 three fits (sym v.three_terminals.ensures ∙ sym v.value-is ∙ w.if-three_terminals.false)
            | else-contains v ↦ judged_outside a.letters a.letter.now a.low.now a.high.now a.used _ (λ three fits. grind (arith, common_steps))
          ]
    ])

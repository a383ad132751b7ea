-- `legal::rising` meets its contract: `is_sorted_by` compares each entry with the next. Assumes nothing.
use Rattle.std.proofs.Common.{◌≡◌, take, rules}
use Rattle.std.proofs.lemmas.Fn.{always_returns_same}
use Rattle.std.specs.List.{IsAllAdjacentAnswer}
use Rattle.format.specs.Legal.{before}
use Rattle.cell.proofs.Loops.{sorted_firsts}
use Rattle.cell.proofs.legal.rising.Goals as goal

pub returns : goal.returns
returns c =
    let a : IsAllAdjacentAnswer (λ x y t. t ≡ before x y) (take c.args.count c.args.schedule) c.is_sorted_by.result = c.is_sorted_by.ensures.cases before (always_returns_same _ _ _ (λ a r f k. (search (rules, k), search rules))) in
    sorted_firsts c.args.count c.args.schedule _ (search rules) a

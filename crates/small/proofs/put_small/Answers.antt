-- `put_small` meets its contract: the argument decides.
use Rattle.std.proofs.Common.{Err}
use Rattle.text.specs.declared.ParseError.TheVariants.{Large, Other}
use Rattle.small.proofs.Messages.{message_prints, prints_as}
use Rattle.small.proofs.put_small.Goals as goal

pub returns-in-Ok : goal.returns-in-Ok
returns-in-Ok c =
    let p = c.put_place in
    prints_as _ _ _ _ p.result c.in-Ok.ensures p.ensures

pub returns-in-Err-Large : goal.returns-in-Err-Large
returns-in-Err-Large c =
    let p = c.put_large in
    prints_as (Err Large) _ _ _ p.result (rw c.in-Err-Large.field-0-is at c.in-Err-Large.ensures) (message_prints _ _ _ p.result p.ensures)

pub returns-in-Err-Other : goal.returns-in-Err-Other
returns-in-Err-Other c =
    let p = c.put_usage in
    prints_as (Err Other) _ _ _ p.result (rw c.in-Err-Other.field-0-is at c.in-Err-Other.ensures) (message_prints _ _ _ p.result p.ensures)

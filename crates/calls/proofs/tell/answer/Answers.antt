-- `answer` meets its contract. Assumes nothing.
use borrow.Author.Tests.{ltb-true}
use Rattle.lists.proofs.Cases.{and_left}
use Rattle.calls.proofs.tell.answer.Goals as goal

pub number-requires : goal.number-requires
number-requires c = (c.requires.0, ltb-true _ _ (and_left _ _ (rw c.in-Number.is at c.requires.1)))

pub count-requires : goal.count-requires
count-requires c = (c.requires.0, ltb-true _ _ (and_left _ _ (rw c.in-Count.is at c.requires.1)))

pub returns-in-Number : goal.returns-in-Number
returns-in-Number c = rw c.in-Number.is c.number.ensures

pub returns-in-Count : goal.returns-in-Count
returns-in-Count c = rw c.in-Count.is c.count.ensures

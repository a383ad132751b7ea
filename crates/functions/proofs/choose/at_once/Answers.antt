-- `at_once`: each case by its law; the rest is no terminal's.
use native.Mathlib.Omega.{arith}
use Rattle.functions.proofs.Known.{found_none}
use Rattle.functions.proofs.Chosen.{terminal_within, terminal_found, same_found, either_found}
use Rattle.functions.proofs.choose.at_once.Goals as goal

pub overflow_add-result : goal.overflow_add-result
overflow_add-result c = omega (arith, terminal_within c.requires.0 c.requires.1 c.requires.2 c.requires.3 c.by_terminal.ensures)

pub returns-then-letter-i : goal.returns-then-letter-i
returns-then-letter-i c = record { found = terminal_found c.requires.0 c.requires.1 c.requires.2 c.requires.3 c.if-letter-i.true c.by_terminal.ensures; fact = λ none. absurd (omega (arith, none)) }

pub returns-then-a-b : goal.returns-then-a-b
returns-then-a-b c = record { found = same_found c.requires.0 c.requires.1 c.requires.2 c.requires.3 c.if-a-b.true; fact = λ none. absurd (omega (arith, none)) }

pub returns-then-a-ne1 : goal.returns-then-a-ne1
returns-then-a-ne1 c = record { found = found_none; fact = λ _. c.if-letter-i.false }

pub returns-then-s-b : goal.returns-then-s-b
returns-then-s-b c = record { found = found_none; fact = λ _. c.if-letter-i.false }

pub returns : goal.returns
returns c = record { found = either_found c.requires.0 c.requires.1 c.requires.2 c.requires.3 c.if-a-ne1.false c.if-s-b.false; fact = λ none. absurd (omega (arith, none)) }

-- The calls on a table by what they store and what they ask: by cases, the definitions of crate diagram (its specs/Call.antt).
use Rattle.std.specs.Prelude.{ℕ, Bool, ◌&&◌, leb, ltb}
use Rattle.refusal.specs.Answer.{Answer, answered}
use Rattle.diagram.specs.Pattern.{patterns}
use Rattle.diagram.specs.Table.{Table, number_at}
use Rattle.diagram.specs.Store.{Stored}
use Rattle.diagram.specs.Operation.{applied, chosen, letter_fixed, two_valued, count}
use Rattle.diagram.specs.Call.{Columns, on_table, apply_call, choose_call, fix_call, number_call, count_call}
use Rattle.calls.specs.declared.Make.{Make}
use Rattle.calls.specs.declared.Make.TheVariants.{Apply, Choose, Fix}
use Rattle.calls.specs.declared.Ask.{Ask}
use Rattle.calls.specs.declared.Ask.TheVariants.{Number, Count}
use Rattle.calls.specs.declared.opening.Call.{Call}
use Rattle.calls.specs.declared.opening.Call.TheVariants.{Store, Tell}

-- a call that stores
abbrev pub store_call : Make → ℕ → Columns → ℕ → Answer Stored
store_call (Apply o a b) letters c used = apply_call o letters c used a b
store_call (Choose s a b) letters c used = choose_call letters c used s a b
store_call (Fix e j bit) letters c used = fix_call letters c used e j bit

-- a question
abbrev pub tell_call : Ask → ℕ → Columns → ℕ → Answer ℕ
tell_call (Number e p) letters c used = number_call letters c used e p
tell_call (Count e) letters c used = count_call letters c used e

-- what is asked of the operands, 9
abbrev pub make_question : Make → ℕ → ℕ → Table → Bool
make_question (Apply o a b) letters used t = ltb a used && ltb b used
make_question (Choose s a b) letters used t = ltb s used && ltb a used && ltb b used && two_valued letters t s
make_question (Fix e j bit) letters used t = ltb e used && ltb j letters && leb bit 1

abbrev pub ask_question : Ask → ℕ → ℕ → Table → Bool
ask_question (Number e p) letters used t = ltb e used && ltb p (patterns letters)
ask_question (Count e) letters used t = ltb e used && two_valued letters t e

abbrev pub question : Call → ℕ → ℕ → Table → Bool
question (Store what) = make_question what
question (Tell what) = ask_question what

-- the function that is stored
abbrev pub made : Make → ℕ → Table → ℕ → ℕ
made (Apply o a b) letters t = applied letters t o a b
made (Choose s a b) letters t = chosen letters t s a b
made (Fix e j bit) letters t = letter_fixed letters t e j bit

-- the number that is told
abbrev pub told : Ask → ℕ → Table → ℕ
told (Number e p) letters t = number_at letters t e p
told (Count e) letters t = count letters t e

-- the checks 8, 7 and 9 alone
abbrev pub opening : Call → ℕ → Columns → ℕ → Answer Table
opening call letters c used = on_table letters c used (question call letters used) (λ t. answered t)

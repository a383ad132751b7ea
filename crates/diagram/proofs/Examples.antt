-- The definitions computed.
use mathlib.Core.Path.{◌≡◌, refl}
use mathlib.Core.Bool.{true, false}
use mathlib.Core.List.{[], ◌∷◌, ◌++◌}
use Prim.Native.Nat.{◌+◌, ◌*◌}
use Rattle.lists.specs.Tests.{below, count_below}
use Rattle.diagram.specs.Pattern.{letter_at}
use Rattle.diagram.specs.Table.{never, branch, terminal, number_from, number_at}
use Rattle.diagram.specs.Sound.{sound, entry_legal, distinct, fixed_terminals}
use Rattle.diagram.specs.Store.{Stored, stored, find, add, join, both, store, fresh}
use Rattle.diagram.specs.Operation.{sum, count}
use Rattle.diagram.specs.Call.{columns_of, columns_sound}
use Rattle.diagram.specs.Held.{entries, all_blank, held_sound}

-- letter 0 and letter 1 in a fresh table of two letters
letters : Stored
letters = store 2 0 (letter_at 1) (store 2 0 (letter_at 0) fresh).table

letters_table : letters.table ≡ fresh ++ (branch 0 0 1 ∷ branch 1 0 1 ∷ [])
unfolding letters store both join add find
letters_table = refl

-- a function with a new terminal: its low part, then its high part, then its root
product : store 2 0 (λ p. letter_at 0 p * 7) fresh ≡ stored (fresh ++ (terminal 7 ∷ branch 0 0 3 ∷ [])) 4
unfolding store both join add find
product = refl

product_sound : sound 2 (store 2 0 (λ p. letter_at 0 p * 7) fresh).table ≡ true
unfolding store both join add find sound entry_legal distinct fixed_terminals below
product_sound = refl

product_count : count 2 letters.table 4 ≡ 2
unfolding letters store both join add find count count_below number_from
product_count = refl

-- two new terminals: the low part's first
order : store 1 0 (λ p. p + 5) fresh ≡ stored (fresh ++ (terminal 5 ∷ terminal 6 ∷ branch 0 3 4 ∷ [])) 5
unfolding store both join add find
order = refl

-- a table with two equal entries, and a branch whose part has its own letter, are not sound
equal_unsound : sound 2 (fresh ++ (branch 0 0 1 ∷ branch 0 0 1 ∷ [])) ≡ false
unfolding sound entry_legal distinct fixed_terminals below
equal_unsound = refl

letters_unsound : sound 2 (fresh ++ (branch 0 0 1 ∷ branch 0 3 1 ∷ [])) ≡ false
unfolding sound entry_legal distinct fixed_terminals below
letters_unsound = refl

-- never absorbs, and two times are a time
sum_absorbs : sum 3 never ≡ never
sum_absorbs = refl

sum_stays : sum 4294967290 10 ≡ 4294967294
sum_stays = refl

-- an entry past the used count is not blank
past_unsound : columns_sound 2 (columns_of 5 (fresh ++ (branch 0 0 1 ∷ []))) 3 ≡ false
unfolding held_sound columns_of entries all_blank sound entry_legal distinct fixed_terminals below
past_unsound = refl

-- letter 0 is bit 0 of a pattern
bit_zero : number_at 2 letters.table 3 1 ≡ 1
unfolding letters store both join add find number_from
bit_zero = refl

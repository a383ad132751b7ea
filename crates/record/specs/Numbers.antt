-- What the functions on a run read off one entry, and off the first entries of an array.
use Rattle.std.specs.Prelude.{ℕ, ◌+◌, List, Bool, not, ◌&&◌, ◌||◌, cond, length, get_or, leb, ltb, eqb}
use Rattle.lists.specs.Tests.{below}
use Rattle.format.specs.Legal.{input}
use Rattle.diagram.specs.Pattern.{patterns}
use Rattle.diagram.specs.Table.{Table, never, number_at}
use Rattle.rules.specs.Run.{least_below, never_entry}
use Rattle.net.specs.Net.{entries_place, role_place, time_place, at}

-- a number is later than one and at most another, or is a third
abbrev pub among : ℕ → ℕ → ℕ → ℕ → Bool
among after most other x = eqb x other || (ltb after x && leb x most)

-- every number that an entry takes is
unfoldable pub all_among : ℕ → Table → ℕ → ℕ → ℕ → ℕ → Bool
all_among letters t after most other e = below (patterns letters) (λ p. among after most other (number_at letters t e p))

-- an entry of the table, and every number that it takes is
abbrev pub entry_among : ℕ → Table → ℕ → ℕ → ℕ → ℕ → Bool
entry_among letters t after most other e = ltb e (length t) && all_among letters t after most other e

-- the first n entries of an array are such
abbrev pub entries_among : ℕ → Table → ℕ → ℕ → ℕ → List ℕ → ℕ → Bool
entries_among letters t after most other es n = below n (λ i. entry_among letters t after most other (get_or es i 0))

-- node record i, where it is an input, has no next change
abbrev pub rests_at : List ℕ → List ℕ → ℕ → Bool
rests_at net changes i = not (eqb (at net (role_place + i)) input) || eqb (get_or changes i 0) never_entry

-- the least number of an entry over all patterns
abbrev pub least_of : ℕ → Table → ℕ → ℕ
least_of letters t e = least_below (patterns letters) (number_at letters t e)

-- the least number of the first n entries of an array over all patterns
abbrev pub least_among : ℕ → Table → List ℕ → ℕ → ℕ
least_among letters t es n = least_below n (λ i. least_of letters t (get_or es i 0))

-- the same, by the least numbers in a column
abbrev pub least_listed : List ℕ → List ℕ → ℕ → ℕ
least_listed least es n = least_below n (λ i. get_or least (get_or es i 0) 0)

-- a time that is after now, or never
abbrev pub after_now : ℕ → ℕ → ℕ
after_now now time = cond (ltb now time) time never

-- the earliest time of the schedule after now, or never
abbrev pub scheduled_after : List ℕ → ℕ → ℕ
scheduled_after net now = least_below (at net entries_place) (λ i. after_now now (at net (time_place + i)))

-- Bytes written into a buffer.
use Rattle.std.specs.Prelude.{ℕ, ◌+◌, ◌≡◌, List, ◌++◌, length, take, drop}

-- bytes written into a longer list from a place on
abbrev pub written : ℕ → List ℕ → List ℕ → List ℕ
written at bytes out = take at out ++ bytes ++ drop (at + length bytes) out

-- what a function that writes leaves: where it ended, and the buffer
pub record Wrote (before after : List ℕ) (at : ℕ) (bytes : List ℕ) (end : ℕ) : Type 0 where
  pub end_is : end ≡ at + length bytes
  pub is : after ≡ written at bytes before

-- What a call that saves answers and leaves, by its parts.
use mathlib.Core.Path.{◌≡◌, refl, ◌∙◌, ap}
use mathlib.Core.List.{List, ◌++◌}
use Prim.Native.Nat.{ℕ}
use native.Mathlib.Nat.{zero-add}
use lib.ListN.{length, drop}
use Rattle.refusal.specs.declared.Refusal.{Refusal}
use Rattle.std.specs.Prelude.{Result, Ok, Err}
use Rattle.refusal.specs.Answer.{Answer, refused, answered}
use Rattle.text.specs.Written.{Wrote}
use Rattle.writer.specs.Saving.{saving, Saves}

-- a refusal leaves the bytes as they were
pub saves_refused : (out : List ℕ) (answer : Answer (List ℕ)) (why : Refusal) → answer ≡ refused why → Saves out out answer (Err why)
unfolding saving
saves_refused out answer why e = rw e (record { given_is = refl; bytes_are = refl })

-- a file that was written from the start of the buffer on
pub saves_written : {before after file : List ℕ} {end : ℕ} (answer : Answer (List ℕ)) → answer ≡ answered file → Wrote before after 0 file end
    → Saves before after answer (Ok end)
unfolding saving
saves_written {before} {after} {file} {end} answer e w =
    rw e
    (record {
      given_is = ap (λ (n : ℕ). Ok n) (w.end_is ∙ zero-add (length file));
      bytes_are = w.is ∙ ap (λ (n : ℕ). file ++ drop n before) (zero-add (length file));
    })

-- the answer may be said in other words
pub saves_as : {before after : List ℕ} {a b : Answer (List ℕ)} {given : Result ℕ Refusal} → a ≡ b → Saves before after b given → Saves before after a given
saves_as e k = rw e k

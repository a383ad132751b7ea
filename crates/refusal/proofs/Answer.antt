-- Laws of answers and of checks.
use Rattle.std.proofs.Common.{Result, Ok, Err}
use mathlib.Core.Path.{◌≡◌, refl}
use mathlib.Core.Bool.{Bool, true, false}
use Prim.Native.Nat.{ℕ}
use native.Mathlib.Omega.{arith}
use Rattle.refusal.specs.declared.Refusal.{Refusal}
use Rattle.refusal.specs.Number.{reply_number}
use Rattle.refusal.specs.Answer.{Answer, refused, answered, check, answer_number, reply_of, result_of}

-- a refusal is no answer
pub refused_not_answered : {A B : Type 0} {why : Refusal} {a : A} → refused why ≡ answered a → B
refused_not_answered e = let z : ◌≡◌ {A = ℕ} 0 1 = cc in absurd (omega arith)

-- two answers that are equal have equal values
pub same_answer : {A : Type 0} {a b : A} → answered a ≡ answered b → a ≡ b
same_answer e = cc

-- a check that answers passed its test, and what follows answers
pub check_passed : {A : Type 0} (t : Bool) (why : Refusal) (next : Answer A) (a : A) → check t why next ≡ answered a → (t ≡ true) × (next ≡ answered a)
check_passed true why next a e = (refl, e)
check_passed false why next a e = refused_not_answered e

-- a result that is a refusal is that of a refusal
pub err_refused : {A B : Type 0} (f : A → B) {why : Refusal} (a : Answer A) → ◌≡◌ {A = Result B Refusal} (Err why) (result_of f a) → a ≡ refused why
err_refused f (refused why) e = cc
err_refused f (answered a) e = cc

-- a reply's number is its answer's
pub reply_number_lem : {A : Type 0} (a : Answer A) → reply_number (reply_of a) ≡ answer_number a
reply_number_lem (refused why) = refl
reply_number_lem (answered x) = refl

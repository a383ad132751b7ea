-- What an answered check says: every test before the answer held.
use mathlib.Core.Path.{◌≡◌, refl, sym}
use mathlib.Core.Bool.{true}
use mathlib.Core.List.{List}
use mathlib.Core.Option.{Option, some, none}
use Prim.Native.Nat.{ℕ}
use Rattle.refusal.specs.Answer.{Answer, answered}
use Rattle.refusal.proofs.Answer.{refused_not_answered, same_answer, check_passed}
use Rattle.format.specs.Circuit.{Circuit, header_of}
use Rattle.format.specs.Legal.{limits_kept, fields_legal, rising, check_circuit}
use Rattle.format.specs.File.{chained}

-- where a chain's records are used and there is an answer, the chain was found, and what follows answers
pub chained_passed : {A : Type 0} (o : Option (List ℕ)) (next : List ℕ → Answer A) (a : A) → chained o next ≡ answered a → (rs : List ℕ) × (o ≡ some rs) × (next rs ≡ answered a)
chained_passed none next a e = refused_not_answered e
chained_passed (some rs) next a e = (rs, refl, e)

-- the three tests of a cell
pub record Checked (c : Circuit) : Type 0 where
  pub limits : limits_kept (header_of c) ≡ true
  pub fields : fields_legal c ≡ true
  pub order : rising c.schedule ≡ true

-- a cell that is answered passed the three tests, and the answer is the cell
passed : (c d : Circuit) → check_circuit c ≡ answered d → Checked c × (d ≡ c)
unfolding check_circuit
passed c d e =
    let p = check_passed (limits_kept (header_of c)) _ _ d e in
    let q = check_passed (fields_legal c) _ _ d p.1 in
    let r = check_passed (rising c.schedule) _ _ d q.1 in
    (record { limits = p.0; fields = q.0; order = r.0 }, sym (same_answer r.1))

-- a cell that is answered passed the three tests
pub circuit_checked : {c d : Circuit} → check_circuit c ≡ answered d → Checked c
circuit_checked {c} {d} e = (passed c d e).0

-- the answer to a cell is that cell
pub check_same : {c d : Circuit} → check_circuit c ≡ answered d → d ≡ c
check_same {c} {d} e = (passed c d e).1

-- a cell that passes the three tests is answered
pub checked_answered : {c : Circuit} → Checked c → check_circuit c ≡ answered c
unfolding check_circuit
checked_answered k = rw (k.limits, k.fields, k.order)

-- The operands of a function that is stored, once the question is passed.
use mathlib.Core.Path.{◌≡◌}
use mathlib.Core.Bool.{true}
use Prim.Native.Nat.{ℕ, ◌<◌, ◌≤◌}
use Rattle.diagram.specs.declared.Operation.{Operation}
use Rattle.diagram.specs.Table.{Table}
use Rattle.diagram.proofs.Calls.{apply_asked, choose_asked, fix_asked}
use Rattle.functions.specs.Open.{Operand}
use Rattle.functions.proofs.Carry.{whole_operand}
use Rattle.calls.specs.declared.Make.{Make}
use Rattle.calls.specs.declared.Make.TheVariants.{Apply, Choose, Fix}
use Rattle.calls.specs.Call.{make_question}

module _ {what : Make} {letters used : ℕ} {t : Table} where
  pub apply_operands : {o : Operation} {a b : ℕ} → what ≡ Apply o a b → make_question what letters used t ≡ true → Operand letters t used letters a × Operand letters t used letters b
  apply_operands {a = a} {b} is q = let p : (a < used) × (b < used) = apply_asked used a b t (rw is at q) in (whole_operand p.0, whole_operand p.1)

  pub choose_operands : {s a b : ℕ} → what ≡ Choose s a b → make_question what letters used t ≡ true
      → Operand letters t used letters s × Operand letters t used letters a × Operand letters t used letters b
  choose_operands {s} {a} {b} is q =
      (whole_operand (choose_asked letters used s a b t (rw is at q)).0, whole_operand (choose_asked letters used s a b t (rw is at q)).1, whole_operand (choose_asked letters used s a b t (rw is at q)).2)

  pub fix_operands : {e j bit : ℕ} → what ≡ Fix e j bit → make_question what letters used t ≡ true → Operand letters t used letters e × (j < letters) × (bit ≤ 1)
  fix_operands {e} {j} {bit} is q =
      let p : (e < used) × (j < letters) × (bit ≤ 1) = fix_asked letters used e j bit t (rw is at q) in (whole_operand p.0, p.1, p.2)

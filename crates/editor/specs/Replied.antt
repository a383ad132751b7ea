-- What the parts of a call on a run hand over with a result: for the contracts of functions that no editor calls.
use Rattle.std.specs.Prelude.{List, [], ◌∷◌, ℕ, Result}
use Rattle.refusal.specs.declared.Refusal.{Refusal}
use Rattle.record.specs.declared.Run.{Run}
use Rattle.record.specs.declared.Wire.{Wire}
use Rattle.editor.specs.Functions.{after_reply}
use Rattle.editor.specs.Runs.{record_column}

-- the new numbers with an answer, the old ones with a refusal
abbrev pub column_after_reply : List ℕ → Result Run Refusal → List ℕ
column_after_reply column went = after_reply column went record_column

abbrev pub told_after_reply : List ℕ → Result Wire Refusal → List ℕ
told_after_reply told asked = after_reply told asked (λ (wire : Wire). wire.value ∷ wire.change ∷ [])

-- What the two buffers hold after a file was saved, or refused.
use mathlib.Core.Path.{◌≡◌, refl, ◌∙◌, ap}
use mathlib.Core.List.{List}
use Prim.Native.Nat.{ℕ, ◌+◌, ◌≤◌}
use native.Mathlib.Omega.{arith}
use lib.ListN.{length, drop, length-append}
use lib.Seq.{take_at}
use Rattle.refusal.specs.declared.Refusal.{Refusal}
use Rattle.std.specs.Prelude.{Result, Err}
use Rattle.refusal.specs.Answer.{Answer, refused, answered}
use Rattle.format.specs.Circuit.{Circuit, header_of}
use Rattle.format.specs.Legal.{check_circuit}
use Rattle.format.specs.File.{stated_length}
use Rattle.format.specs.Saved.{saved_file, saved_in}
use Rattle.format.proofs.Legal.{legal_limits}
use Rattle.format.proofs.Saved.{room_fits}
use Rattle.fields.specs.Line.{refused_line, LineWrote}
use Rattle.text.proofs.Written.{wrote_length}
use Rattle.writer.specs.Saving.{saving, Saves}
use Rattle.output.specs.declared.Printed.{Printed}
use Rattle.output.specs.Printed.{most_bytes, saved_output, saved_errors, saved_count, reply_line, Prints, SavingPrinted}

-- no legal cell needs more room
pub legal_fits : {c : Circuit} → check_circuit c ≡ answered c → stated_length (header_of c) ≤ most_bytes
legal_fits e = let l = legal_limits e in omega (arith, l.most_nodes_lem, l.most_transistors_lem, l.most_entries_lem)

-- a refusal's line at the front of a buffer
pub refusal_printed : (why : Refusal) (saving : Result ℕ Refusal) (before after : List ℕ) (end : ℕ) → saving ≡ Err why → length (refused_line why) ≤ length before
    → LineWrote before after 0 (refused_line why) end → SavingPrinted saving after (record { output = 0; errors = end })
refusal_printed why saving before after end e room w =
    let n : end ≡ length (refused_line why) = omega (arith, w.wrote.end_is) in
    let l : length after ≡ length before = wrote_length w.wrote (omega arith) in
    record {
      output_is = rw e refl;
      errors_are = rw (e, w.wrote.is, n) (take_at (refused_line why) (drop (0 + length (refused_line why)) before) (length (refused_line why)) refl);
      errors_fit = omega arith;
    }

-- a legal cell that was saved into a buffer with room for it, or a refusal
module _ (before after errors : List ℕ) (given : Result ℕ Refusal) (r : Printed) (room : most_bytes ≤ length before) (p : SavingPrinted given errors r) where
  refused_prints : (why : Refusal) → Saves before after (refused why) given → Prints (saved_output (refused why)) (saved_errors (refused why)) after errors r
  unfolding saving
  refused_prints why s =
      let n : r.output ≡ 0 = p.output_is ∙ ap saved_count s.given_is in
      record {
        output_is = rw n refl;
        output_fits = omega arith;
        errors_are = p.errors_are ∙ ap reply_line s.given_is;
        errors_fit = p.errors_fit;
      }

  written_prints : (c : Circuit) → Saves before after (answered (saved_file c)) given → Prints (saved_output (answered c)) (saved_errors (answered c)) after errors r
  unfolding saving
  written_prints c s =
      let n : r.output ≡ length (saved_file c) = p.output_is ∙ ap saved_count s.given_is in
      record {
        output_is = rw (s.bytes_are, n) (take_at (saved_file c) (drop (length (saved_file c)) before) (length (saved_file c)) refl);
        output_fits = omega (arith, n, ap length s.bytes_are, length-append (saved_file c) (drop (length (saved_file c)) before));
        errors_are = p.errors_are ∙ ap reply_line s.given_is;
        errors_fit = p.errors_fit;
      }

  pub saving_prints : (a : Answer Circuit) → ((c : Circuit) → a ≡ answered c → check_circuit c ≡ answered c) → Saves before after (saved_in (length before) a) given
      → Prints (saved_output a) (saved_errors a) after errors r
  unfolding saved_in
  saving_prints (refused why) legal s = refused_prints why s
  saving_prints (answered c) legal s = written_prints c (rw (room_fits (length before) c (omega (arith, legal_fits (legal c refl)))) at s)

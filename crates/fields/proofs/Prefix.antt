-- No cell file is longer than 2,448 bytes, so what stands far behind in a file changes no answer: a program may read that much only.
use mathlib.Core.Path.{◌≡◌, refl, sym, ◌∙◌, ap, ap₂}
use mathlib.Core.Logic.{⊎_elim}
use mathlib.Core.Bool.{true, false, ◌&&◌}
use mathlib.Core.List.{List}
use Prim.Native.Nat.{ℕ, ◌<◌, ◌≤◌}
use native.Mathlib.Omega.{arith}
use lib.ListN.{length, take}
use lib.Seq.{length-take-le, take_all, get_or-take}
use borrow.Author.Tests.{le-leb, ne_eqb}
use Rattle.lists.proofs.Cases.{bool_cases, lt_or_ge}
use Rattle.format.specs.Legal.{limits_kept}
use Rattle.format.specs.File.{byte_at, record_size, zero_bytes, file_header, header_legal, stated_length, read_cell}
use Rattle.cell.proofs.Read.{read_by, header_counted}
use Rattle.fields.specs.Shown.{shown, shown_file}

-- a file that is longer than n
module _ (n : ℕ) (file : List ℕ) (h : 2448 < n) (longer : n < length file) where
  byte_prefix : (i : ℕ) → i < n → byte_at (take n file) i ≡ byte_at file i
  byte_prefix i l = get_or-take n file i 0 l

  header_prefix : file_header (take n file) ≡ file_header file
  unfolding file_header
  header_prefix =
      rw (byte_prefix 0 (omega arith), byte_prefix 1 (omega arith), byte_prefix 2 (omega arith), byte_prefix 3 (omega arith), byte_prefix 4 (omega arith), byte_prefix 5 (omega arith), byte_prefix 6 (omega arith), byte_prefix 7 (omega arith))

  zeros_prefix : zero_bytes (take n file) 2 14 ≡ zero_bytes file 2 14
  unfolding zero_bytes
  zeros_prefix = rw (byte_prefix 14 (omega arith), byte_prefix 15 (omega arith))

  legal_prefix : header_legal (take n file) ≡ header_legal file
  unfolding header_legal
  legal_prefix = ap₂ ◌&&◌ (ap limits_kept header_prefix) zeros_prefix

  length_prefix : length (take n file) ≡ n
  length_prefix = length-take-le n file (omega arith)

  read_illegal : header_legal file ≡ false → read_cell (take n file) ≡ read_cell file
  read_illegal e =
      read_by (take n file) (le-leb record_size (length (take n file)) (omega (arith, length_prefix))) (legal_prefix ∙ e) refl
      ∙ sym (read_by file (le-leb record_size (length file) (omega arith)) e refl)

  -- a legal header states a shorter file
  stated_short : header_legal file ≡ true → stated_length (file_header file) ≤ 2448
  stated_short e = let k = header_counted file (file_header file) refl e in omega (arith, k.nodes, k.transistors, k.entries)

  read_long : header_legal file ≡ true → read_cell (take n file) ≡ read_cell file
  read_long e =
      read_by (take n file) (le-leb record_size (length (take n file)) (omega (arith, length_prefix))) (legal_prefix ∙ e)
      (ne_eqb (length (take n file)) (stated_length (file_header (take n file))) (λ q. omega (arith, q, length_prefix, ap stated_length header_prefix, stated_short e)))
      ∙ sym (read_by file (le-leb record_size (length file) (omega arith)) e (ne_eqb (length file) (stated_length (file_header file)) (λ q. omega (arith, q, stated_short e))))

pub read_prefix : (n : ℕ) (file : List ℕ) → 2448 < n → read_cell (take n file) ≡ read_cell file
read_prefix n file h =
    ⊎_elim
    (λ (longer : n < length file). ⊎_elim (read_long n file h longer) (read_illegal n file h longer) (bool_cases (header_legal file)))
    (λ (l : length file ≤ n). ap read_cell (take_all n file l))
    (lt_or_ge n (length file))

-- the 4,096 bytes that show reads are enough
pub shown_prefix : (file : List ℕ) → shown_file (take 4096 file) ≡ shown_file file
unfolding shown_file
shown_prefix file = ap shown (read_prefix 4096 file (omega arith))

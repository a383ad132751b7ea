-- A chain as it is saved: its length, and that it is found and read again wherever it stands in a file. The same for any kind of record.
use mathlib.Core.Path.{◌≡◌, refl, sym, ◌∙◌, ap, ap₂}
use mathlib.Core.Bool.{Bool, true, ◌&&◌}
use mathlib.Core.List.{List, [], ◌∷◌, ◌++◌, map, append_assoc}
use mathlib.Core.Option.{some}
use Prim.Native.Nat.{ℕ, zero, suc, ◌+◌, ◌*◌, ◌/◌, ◌%◌, ◌≤◌, ◌<◌}
use native.Mathlib.Nat.{add-zero}
use native.Mathlib.Omega.{arith}
use lib.ListN.{length, drop, length-append}
use lib.Seq.{get_or-drop, drop-drop, drop_at}
use lib.Dec.{eqb}
use borrow.Author.Tests.{le-leb, eq-eqb}
use Rattle.lists.proofs.Cases.{and_left, and_right, and_both}
use Rattle.format.specs.Circuit.{every}
use Rattle.format.specs.Legal.{within}
use Rattle.format.specs.File.{byte_at, half_at, word_at, zero_bytes, record_at, kind_at, next_at, chain}
use Rattle.format.specs.Saved.{first_from, chain_bytes}

-- the two bytes of a number that fits them are that number
pub half_whole : (n : ℕ) → n < 65536 → n % 256 + 256 * (n / 256 % 256) ≡ n
half_whole n h = omega arith

-- and the four bytes
pub word_whole : (n : ℕ) → n < 4294967296 → n % 256 + 256 * (n / 256 % 256) + 65536 * (n / 65536 % 256 + 256 * (n / 65536 / 256 % 256)) ≡ n
word_whole n h = omega (arith, half_whole (n / 65536) (omega arith))

-- the records of a chain are 16 bytes each
pub chain_bytes_length : {A : Type 0} (bytes : ℕ → A → List ℕ) → ((next : ℕ) (x : A) → length (bytes next x) ≡ 16)
    → (r : ℕ) (xs : List A) → length (chain_bytes bytes r xs) ≡ 16 * length xs
unfolding chain_bytes
chain_bytes_length bytes size r [] = refl
chain_bytes_length bytes size r (x ∷ xs) =
    length-append (bytes _ x) (chain_bytes bytes (r + 1) xs) ∙ omega (arith, size (first_from (r + 1) (length xs)) x, chain_bytes_length bytes size (r + 1) xs)

-- what stands n bytes further on in a file is what stands there in the file without its first n bytes
module _ (file : List ℕ) (n : ℕ) where
  pub byte_further : (i : ℕ) → byte_at file (n + i) ≡ byte_at (drop n file) i
  byte_further i = sym (get_or-drop n file i 0)

  pub half_further : (i : ℕ) → half_at file (n + i) ≡ half_at (drop n file) i
  half_further i =
      let e : n + i + 1 ≡ n + (i + 1) = omega arith in
      rw e (ap₂ (λ (a b : ℕ). a + 256 * b) (byte_further i) (byte_further (i + 1)))

  pub word_further : (i : ℕ) → word_at file (n + i) ≡ word_at (drop n file) i
  word_further i =
      let e : n + i + 2 ≡ n + (i + 2) = omega arith in
      ap₂ (λ (a b : ℕ). a + 65536 * b) (half_further i) (ap (half_at file) e ∙ half_further (i + 2))

  pub zero_further : (m i : ℕ) → zero_bytes file m (n + i) ≡ zero_bytes (drop n file) m i
  unfolding zero_bytes
  zero_further zero i = refl
  zero_further (suc m) i =
      let e : n + i + 1 ≡ n + (i + 1) = omega arith in
      ap₂ (λ (b : ℕ) (t : Bool). eqb b 0 && t) (byte_further i) (ap (zero_bytes file m) e ∙ zero_further m (i + 1))

-- how the records of a kind are written, and that they are read again as they were: those that pass a test
pub record Written {A : Type 0} (kind : ℕ) (bytes : ℕ → A → List ℕ) (at : List ℕ → ℕ → A) (blank : List ℕ → ℕ → Bool) (test : A → Bool) : Type 0 where
  pub size : (next : ℕ) (x : A) → length (bytes next x) ≡ 16
  pub kind_read : (next : ℕ) (x : A) (rest : List ℕ) → byte_at (bytes next x ++ rest) 0 ≡ kind
  pub next_read : (next : ℕ) (x : A) (rest : List ℕ) → next < 65536 → half_at (bytes next x ++ rest) 2 ≡ next
  pub at_read : (next : ℕ) (x : A) (rest : List ℕ) → test x ≡ true → at (bytes next x ++ rest) 0 ≡ x
  pub blank_read : (next : ℕ) (x : A) (rest : List ℕ) → blank (bytes next x ++ rest) 0 ≡ true
  pub at_further : (file : List ℕ) (r : ℕ) → at file r ≡ at (drop (record_at r) file) 0
  pub blank_further : (file : List ℕ) (r : ℕ) → blank file r ≡ blank (drop (record_at r) file) 0

-- a chain that is found in a file from record r on: the numbers of its records, and what is read there
pub record Found {A : Type 0} (file : List ℕ) (count kind : ℕ) (at : List ℕ → ℕ → A) (blank : List ℕ → ℕ → Bool) (r : ℕ) (xs : List A) : Type 0 where
  pub numbers : List ℕ
  pub chained : chain file count kind (length xs) r ≡ some numbers
  pub is : map (at file) numbers ≡ xs
  pub blanks : every (blank file) numbers ≡ true

first_most : (r n : ℕ) → first_from r n ≤ r
first_most r zero = omega arith
first_most r (suc n) = omega arith

-- the first number of n records that are numbered from r on fits two bytes where r does
pub first_whole : (r n : ℕ) → r < 65536 → first_from r n % 256 + 256 * (first_from r n / 256 % 256) ≡ first_from r n
first_whole r n h = half_whole (first_from r n) (omega (arith, first_most r n))

-- past n records stands what follows them
pub records_past : (file bs rest : List ℕ) (r n : ℕ) → drop (record_at r) file ≡ bs ++ rest → length bs ≡ 16 * n → drop (record_at (r + n)) file ≡ rest
records_past file bs rest r n e l =
    let p : 16 * (r + n) ≡ 16 * r + 16 * n = omega arith in
    rw p (sym (drop-drop (16 * n) (16 * r) file) ∙ ap (drop (16 * n)) e ∙ drop_at bs rest (16 * n) l)

-- past a chain stands what follows it
pub chain_past : {A : Type 0} (bytes : ℕ → A → List ℕ) → ((next : ℕ) (x : A) → length (bytes next x) ≡ 16)
    → (file : List ℕ) (r : ℕ) (xs : List A) (rest : List ℕ) → drop (record_at r) file ≡ chain_bytes bytes r xs ++ rest → drop (record_at (r + length xs)) file ≡ rest
chain_past bytes size file r xs rest e = records_past file (chain_bytes bytes r xs) rest r (length xs) e (chain_bytes_length bytes size r xs)

module _ {A : Type 0} {kind : ℕ} {bytes : ℕ → A → List ℕ} {at : List ℕ → ℕ → A} {blank : List ℕ → ℕ → Bool} {test : A → Bool} (w : Written kind bytes at blank test)
    (file : List ℕ) (count : ℕ) (small : count < 65535) where
  -- a record passes the link's test
  link_read : (r next : ℕ) (x : A) (rest : List ℕ) → drop (record_at r) file ≡ bytes next x ++ rest → 1 ≤ r → r ≤ count
      → within 1 count r && eqb (kind_at file r) kind ≡ true
  link_read r next x rest e low high =
      let k : kind_at file r ≡ kind = rw add-zero at (byte_further file (record_at r) 0) ∙ ap (λ (f : List ℕ). byte_at f 0) e ∙ w.kind_read next x rest in
      and_both _ _ (and_both _ _ (le-leb 1 r low) (le-leb r count high)) (eq-eqb _ _ k)

  -- and names the next one
  next_is : (r next : ℕ) (x : A) (rest : List ℕ) → drop (record_at r) file ≡ bytes next x ++ rest → next < 65536 → next_at file r ≡ next
  next_is r next x rest e h = half_further file (record_at r) 2 ∙ ap (λ (f : List ℕ). half_at f 2) e ∙ w.next_read next x rest h

  -- a chain whose records stand one after the other from record r on is found, and read as it was
  pub chain_found_lem : (r : ℕ) (xs : List A) (rest : List ℕ) → drop (record_at r) file ≡ chain_bytes bytes r xs ++ rest
      → 1 ≤ r → r + length xs ≤ count + 1 → every test xs ≡ true → Found file count kind at blank (first_from r (length xs)) xs
  unfolding chain_bytes chain every
  chain_found_lem r [] rest e low high t = record { numbers = []; chained = refl; is = refl; blanks = refl }
  chain_found_lem r (x ∷ xs) rest e low high t =
      let next = first_from (r + 1) (length xs) in
      let after = chain_bytes bytes (r + 1) xs ++ rest in
      let here : drop (record_at r) file ≡ bytes next x ++ after = e ∙ append_assoc (bytes next x) (chain_bytes bytes (r + 1) xs) rest in
      let more = chain_found_lem (r + 1) xs rest (records_past file (bytes next x) after r 1 here (w.size next x)) (omega arith) (omega arith) (and_right (test x) (every test xs) t) in
      let onward : next_at file r ≡ next = next_is r next x after here (omega (arith, first_most (r + 1) (length xs))) in
      record {
        numbers = r ∷ more.numbers;
        chained = rw (link_read r next x after here low (omega arith), onward, more.chained);
        is = ap₂ ◌∷◌ (w.at_further file r ∙ ap (λ (f : List ℕ). at f 0) here ∙ w.at_read next x after (and_left (test x) (every test xs) t)) more.is;
        blanks = and_both _ _ (w.blank_further file r ∙ ap (λ (f : List ℕ). blank f 0) here ∙ w.blank_read next x after) more.blanks;
      }

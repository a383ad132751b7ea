-- One row more in the index.
use mathlib.Core.Path.{◌≡◌, refl, sym, ◌∙◌, ap, subst}
use mathlib.Core.List.{List, ◌∷◌}
use mathlib.Core.Bool.{true, false, true≢false}
use Prim.Native.Nat.{ℕ, zero, suc, ◌+◌, ◌*◌, ◌/◌, ◌<◌, ◌≤◌}
use native.Mathlib.Numerals.{add-one}
use native.Mathlib.Omega.{arith}
use lib.ListN.{length, get_or, set, take, replicate, length-set, length-replicate}
use lib.Seq.{get_or-set_same, get_or-set_other, length-take-le}
use Rattle.diagram.specs.Table.{branch, entry_at}
use Rattle.diagram.specs.Call.{columns, lengths_legal}
use Rattle.diagram.specs.Held.{entries}
use Rattle.diagram.proofs.Sound.{entry_path}
use Rattle.diagram.proofs.Columns.{Lengths, lengths_record, lengths_test}
use Rattle.diagram.proofs.Held.{entries_at}
use Rattle.table.specs.Index.{bucket, Indexed, linked}
use Rattle.table.specs.Holds.{Sized, first_entries, Lent, Ready, Sought, Empty, IndexLength}
use Rattle.table.specs.Steps.{Entered}
use Rattle.table.proofs.Index.{indexed_none, indexed_agree, indexed_next}

-- columns of legal lengths with an index of a length for them
pub sized : {l w h ix : List ℕ} → lengths_legal (columns l w h) ≡ true → IndexLength (length l) (length ix) → Sized l w h ix
sized {l} {w} {h} {ix} e n =
    let long : Lengths (columns l w h) = lengths_record (columns l w h) e in
    record { least = long.least; most = long.most; low_long = long.low_long; high_long = long.high_long; even = n.even; room = n.room }

-- they are of legal lengths
pub sized_legal : {l w h ix : List ℕ} → Sized l w h ix → lengths_legal (columns l w h) ≡ true
sized_legal {l} {w} {h} s = lengths_test (columns l w h) (record { least = s.least; most = s.most; low_long = s.low_long; high_long = s.high_long })

-- others of the same lengths
pub sized_again : {l w h ix l1 w1 h1 ix1 : List ℕ} → Sized l w h ix → length l1 ≡ length l → length w1 ≡ length w → length h1 ≡ length h → length ix1 ≡ length ix → Sized l1 w1 h1 ix1
sized_again s a b c d = record {
  least = omega (arith, s.least);
  most = omega (arith, s.most);
  low_long = omega (arith, s.low_long);
  high_long = omega (arith, s.high_long);
  even = rw d s.even;
  room = rw (a, d) s.room;
}

-- columns of legal lengths with an index for their first entries
pub lent : {l w h ix : List ℕ} → lengths_legal (columns l w h) ≡ true → 2 * first_entries ≤ length ix → Lent l w h ix
lent {l} {w} {h} {ix} e n =
    let long : Lengths (columns l w h) = lengths_record (columns l w h) e in
    record { least = long.least; most = long.most; low_long = long.low_long; high_long = long.high_long; room = omega arith }

-- they are of legal lengths
pub lent_legal : {l w h ix : List ℕ} → Lent l w h ix → lengths_legal (columns l w h) ≡ true
lent_legal {l} {w} {h} s = lengths_test (columns l w h) (record { least = s.least; most = s.most; low_long = s.low_long; high_long = s.high_long })

-- others of the same lengths
pub lent_again : {l w h ix l1 w1 h1 ix1 : List ℕ} → Lent l w h ix → length l1 ≡ length l → length w1 ≡ length w → length h1 ≡ length h → length ix1 ≡ length ix → Lent l1 w1 h1 ix1
lent_again s a b c d = record {
  least = omega (arith, s.least);
  most = omega (arith, s.most);
  low_long = omega (arith, s.low_long);
  high_long = omega (arith, s.high_long);
  room = rw (a, d) s.room;
}

-- the first part of a local array of zeros, lent as the index
abbrev pub zeros : ℕ → List ℕ
zeros m = replicate m 0

empty_take : (n m : ℕ) → Empty (take n (zeros m))
empty_take zero m = refl
empty_take (suc n) zero = refl
empty_take (suc n) (suc m) = ap {B = List ℕ} (λ r. 0 ∷ r) (empty_take n m)

pub part_long : (n m : ℕ) → n ≤ m → length (take n (zeros m)) ≡ n
part_long n m h = length-take-le n (zeros m) (omega (arith, length-replicate {A = ℕ} m 0))

pub part_ready : (l w h : List ℕ) (n m : ℕ) → lengths_legal (columns l w h) ≡ true → IndexLength (length l) n → n ≤ m
    → Sized l w h (take n (zeros m)) × Empty (take n (zeros m))
part_ready l w h n m e x le =
    let z : length (take n (zeros m)) ≡ n = part_long n m le in
    (sized e (rw z x), empty_take n m)

-- an empty index is that of no rows
pub ready_none : {l w h ix : List ℕ} → Sized l w h ix → Empty ix → Ready l w h ix 0
ready_none {l} {w} {h} {ix} s e = record { sized = s; fits = omega arith; index = indexed_none (length ix / 2) (entries l w h) ix e }

-- a row that is linked at the head of its bucket
pub ready_link : (l w h ix : List ℕ) (used : ℕ) → Ready l w h ix used → used < length l → (head : ℕ) → bucket (length ix / 2) (entry_at (entries l w h) used) ≡ head → head < length ix / 2
    → Ready l w h (linked (length ix / 2) ix head used) (used + 1)
ready_link l w h ix used s room head own small =
    let half : ℕ = length ix / 2 in
    let z : Sized l w h ix = s.sized in
    let long : length (linked half ix head used) ≡ length ix =
    length-set (set ix (half + used) (get_or ix head 0)) head (used + 1) ∙ length-set ix (half + used) (get_or ix head 0) in
    let halves : length (linked half ix head used) / 2 ≡ length ix / 2 = ap (λ (n : ℕ). n / 2) long in
    record {
      sized = record { least = omega arith; most = omega arith; low_long = omega arith; high_long = omega arith; even = omega arith; room = omega arith };
      fits = omega arith;
      index =
          rw halves
          (subst (λ (n : ℕ). Indexed (length ix / 2) (entries l w h) n (linked (length ix / 2) ix head used)) (sym (add-one used))
          (indexed_next (length ix / 2) (entries l w h) used ix s.index (omega arith) head own small));
    }

-- an entry written at the used count
module _ (l w h ix : List ℕ) (used : ℕ) (s : Ready l w h ix used) (k a b : ℕ) (room : used < length l) where
  low_long : length (set w used a) ≡ length (set l used k)
  low_long = length-set w used a ∙ s.sized.low_long ∙ sym (length-set l used k)

  high_long : length (set h used b) ≡ length (set l used k)
  high_long = length-set h used b ∙ s.sized.high_long ∙ sym (length-set l used k)

  row_before : (i : ℕ) → i < used → entry_at (entries l w h) i ≡ entry_at (entries (set l used k) (set w used a) (set h used b)) i
  row_before i g =
      entries_at l w h s.sized.low_long s.sized.high_long i
      ∙ entry_path _ _ (sym (get_or-set_other l used i k 0 (omega arith))) (sym (get_or-set_other w used i a 0 (omega arith))) (sym (get_or-set_other h used i b 0 (omega arith)))
      ∙ sym (entries_at (set l used k) (set w used a) (set h used b) low_long high_long i)

  row_new : entry_at (entries (set l used k) (set w used a) (set h used b)) used ≡ branch k a b
  row_new =
      entries_at (set l used k) (set w used a) (set h used b) low_long high_long used
      ∙ entry_path _ _ (get_or-set_same l used k 0 room) (get_or-set_same w used a 0 (omega (arith, s.sized.low_long))) (get_or-set_same h used b 0 (omega (arith, s.sized.high_long)))

  ready_set : Ready (set l used k) (set w used a) (set h used b) ix used
  ready_set =
      let z : Sized l w h ix = s.sized in
      let long : length (set l used k) ≡ length l = length-set l used k in
      record {
        sized = record { least = omega arith; most = omega arith; low_long = low_long; high_long = high_long; even = z.even; room = omega arith };
        fits = omega arith;
        index = indexed_agree row_before s.index;
      }

  pub ready_write : (head : ℕ) → head ≡ bucket (length ix / 2) (branch k a b) → head < length ix / 2
      → Ready (set l used k) (set w used a) (set h used b) (linked (length ix / 2) ix head used) (used + 1)
  ready_write head own small =
      ready_link (set l used k) (set w used a) (set h used b) ix used ready_set (omega (arith, length-set l used k)) head (ap (bucket (length ix / 2)) row_new ∙ sym own) small

-- a row that is searched for before it is linked
module _ (l w h ix : List ℕ) (at : ℕ) (s : Ready l w h ix at) (r : ℕ) (f : Sought (entries l w h) at (branch (get_or l at 0) (get_or w at 0) (get_or h at 0)) r) where
  row : entry_at (entries l w h) at ≡ branch (get_or l at 0) (get_or w at 0) (get_or h at 0)
  row = entries_at l w h s.sized.low_long s.sized.high_long at

  pub entered_twin : (ix' : List ℕ) → r < at → Entered l w h ix' at false
  entered_twin ix' there = record {
    ready = λ z. absurd (true≢false (sym z));
    new = λ z. absurd (true≢false (sym z));
    twin = λ z. (r, there, f.there there ∙ sym row);
  }

  pub entered_new : at < length l → at ≤ r → (head : ℕ) → head ≡ bucket (length ix / 2) (branch (get_or l at 0) (get_or w at 0) (get_or h at 0)) → head < length ix / 2
      → Entered l w h (linked (length ix / 2) ix head at) at true
  entered_new room out head own small =
      let same : r ≡ at = omega (arith, f.within) in
      record {
        ready = λ z. ready_link l w h ix at s room head (ap (bucket (length ix / 2)) row ∙ sym own) small;
        new = λ z j g e. f.missing same j g (e ∙ row);
        twin = λ z. absurd (true≢false z);
      }

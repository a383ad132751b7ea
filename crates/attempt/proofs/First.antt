-- The first entries of working are columns of legal lengths too.
use mathlib.Core.Path.{◌≡◌}
use mathlib.Core.List.{List}
use mathlib.Core.Bool.{true}
use Prim.Native.Nat.{ℕ, ◌*◌, ◌≤◌, min}
use native.Mathlib.Omega.{arith}
use lib.ListN.{length, take}
use lib.Seq.{length-take-le}
use Rattle.diagram.specs.Held.{most_entries}
use Rattle.diagram.specs.Call.{columns, lengths_legal}
use Rattle.diagram.proofs.Columns.{Lengths, lengths_record}
use Rattle.table.specs.Holds.{Sized, first_entries, Lent}
use Rattle.attempt.specs.Room.{Roomy}

module _ {l w h ix : List ℕ} {size : ℕ} (is : size ≡ min (length l) first_entries) (s : Lent l w h ix) where
  pub letter_fits : size ≤ length l
  letter_fits = omega arith

  pub low_fits : size ≤ length w
  low_fits = omega (arith, s.low_long)

  pub high_fits : size ≤ length h
  high_fits = omega (arith, s.high_long)

  pub first_roomy : Roomy (take size l) (take size w) (take size h) ix
  first_roomy =
      let letters : length (take size l) ≡ size = length-take-le size l letter_fits in
      let lows : length (take size w) ≡ size = length-take-le size w low_fits in
      let highs : length (take size h) ≡ size = length-take-le size h high_fits in
      record {
        least = omega (arith, s.least);
        most = omega (arith, s.most);
        low_long = omega arith;
        high_long = omega arith;
        room = omega (arith, s.room);
      }

-- and the first numbers lent beside columns are an index for them
module _ {l w h ix : List ℕ} (s : Roomy l w h ix) where
  pub room_sized : Sized l w h (take (2 * length l) ix)
  room_sized =
      let places : length (take (2 * length l) ix) ≡ 2 * length l = length-take-le (2 * length l) ix s.room in
      record {
        least = s.least;
        most = s.most;
        low_long = s.low_long;
        high_long = s.high_long;
        even = omega arith;
        room = omega arith;
      }

-- an array that has room for an index of the longest columns
pub legal_roomy : {l w h ix : List ℕ} → lengths_legal (columns l w h) ≡ true → 2 * most_entries ≤ length ix → Roomy l w h ix
legal_roomy {l} {w} {h} {ix} e n =
    let long : Lengths (columns l w h) = lengths_record (columns l w h) e in
    record { least = long.least; most = long.most; low_long = long.low_long; high_long = long.high_long; room = omega (arith, long.most) }

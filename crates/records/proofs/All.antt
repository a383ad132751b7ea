-- What an iterator's `all` answers is `every`.
use Rattle.std.specs.Prelude.{◌≡◌, ℕ, ◌+◌, ◌*◌, ◌<◌, ◌≤◌, Bool, true, List, length, take, get_or, IsTrue, ◌↔◌, EachIndex}
use Rattle.std.proofs.Common.{arith, get_or-take, length-take}
use Rattle.std.proofs.lemmas.List.{get_or_default}
use Rattle.records.specs.Chain.{Inside}
use Rattle.format.specs.Circuit.{every}
use Rattle.format.proofs.Every.{every_at, every_of}
use Rattle.lists.proofs.Cases.{bool_ext}

pub all_every : {A : Type 0} (test : A → Bool) (d : A) (xs : List A) (b : Bool) → IsTrue b ↔ EachIndex xs (λ k. test (get_or xs k d) ≡ true) → b ≡ every test xs
all_every test d xs b e = bool_ext b (every test xs) (λ t. every_of test xs d (e.0 t)) (λ t. e.1 (every_at test xs t d))

-- the first n records lie within the file, each of them
pub taken_inside : (file : List ℕ) (n : ℕ) (records : List ℕ) → Inside file n records → (k d : ℕ) → k < length (take n records) → 16 * get_or (take n records) k d + 16 ≤ length file
taken_inside file n records h k d g =
    let below : k < n = omega (arith, length-take n records) in
    let here : k < length records = omega (arith, length-take n records) in
    rw (get_or-take n records k d below, get_or_default records k d 0 here) (h.within k below)

-- The first n places of an array: what `all` and `is_sorted_by` answer of them is what the definitions ask.
use Rattle.std.proofs.Common.{◌≡◌, ℕ, zero, suc, ◌<◌, ◌≤◌, Bool, true, false, ◌&&◌, List, [], ◌∷◌, length, get_or, take, refl, sym, ◌∙◌, add-one, ap, arith}
use Rattle.std.specs.Prelude.{IsTrue, ◌↔◌, EachIndex}
use Rattle.std.specs.List.{IsAllAdjacentAnswer}
use Rattle.format.specs.declared.Entry.{Entry}
use Rattle.format.specs.Circuit.{every, no_entry}
use Rattle.format.specs.Legal.{before, rising_from, rising}
use Rattle.lists.proofs.Cases.{and_both}
use Rattle.records.proofs.All.{all_every}
use Rattle.cell.specs.Value.{firsts}
use Rattle.cell.proofs.Firsts.{firsts_take}

-- every element passes a test
pub all_firsts : {A : Type 0} (test : A → Bool) (n : ℕ) (d : A) (xs : List A) (b : Bool) → n ≤ length xs
    → IsTrue b ↔ EachIndex (take n xs) (λ k. test (get_or (take n xs) k d) ≡ true) → b ≡ every test (firsts n d xs)
all_firsts test n d xs b h e = all_every test d (take n xs) b e ∙ ap (every test) (sym (firsts_take d n xs h))

-- each entry stands before the next
rises : (a : Entry) (es : List Entry) → ((k : ℕ) → k < length es → before (get_or (a ∷ es) k no_entry) (get_or es k no_entry) ≡ true) → rising_from a es ≡ true
unfolding rising_from
rises a [] h = refl
rises a (b ∷ es) h = and_both _ _ (h zero (omega arith)) (rises b es (λ k g. h (suc k) (omega arith)))

-- one does not
fails : (t : Bool) → t && false ≡ false
fails true = refl
fails false = refl

falls : (a : Entry) (es : List Entry) (k : ℕ) → k < length es → before (get_or (a ∷ es) k no_entry) (get_or es k no_entry) ≡ false → rising_from a es ≡ false
unfolding rising_from
falls a [] k g e = absurd (omega arith)
falls a (b ∷ es) zero g e = rw e
falls a (b ∷ es) (suc k) g e = rw (falls b es k (omega arith) e) (fails (before a b))

sorted_rising : (es : List Entry) (b : Bool) → IsAllAdjacentAnswer (λ x y t. t ≡ before x y) es b → b ≡ rising es
unfolding rising
sorted_rising [] true h = refl
sorted_rising [] false h = absurd (omega (arith, h.1))
sorted_rising (e ∷ es) true h = sym (rises e es (λ k g. sym (rw add-one at (h k no_entry (omega arith)))))
sorted_rising (e ∷ es) false h = sym (falls e es h.0 (omega (arith, h.1)) (sym (rw add-one at (h.2 no_entry))))

pub sorted_firsts : (n : ℕ) (es : List Entry) (b : Bool) → n ≤ length es → IsAllAdjacentAnswer (λ x y t. t ≡ before x y) (take n es) b → b ≡ rising (firsts n no_entry es)
sorted_firsts n es b h a = sorted_rising (take n es) b a ∙ ap rising (sym (firsts_take no_entry n es h))

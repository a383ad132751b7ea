-- Numbers whose kept transistors are among those that the rules keep: the charges of their walks are small.
use mathlib.Core.Path.{◌≡◌, refl, sym, ◌∙◌, ap, subst}
use mathlib.Core.Logic.{⊎_elim}
use mathlib.Core.List.{List, [], ◌∷◌, Memᴰ}
use mathlib.Core.Bool.{Bool, true, false, cond}
use mathlib.Core.Option.{none}
use Prim.Native.Nat.{ℕ, zero, suc, ◌+◌, ◌-◌, ◌<◌, ◌≤◌}
use native.Mathlib.Omega.{arith}
use lib.ListN.{length, get_or, take, length-take}
use lib.Seq.{get_or-take}
use Rattle.lists.proofs.Cases.{bool_cases, lt_or_ge}
use Rattle.format.specs.declared.Transistor.{Transistor}
use Rattle.format.specs.Circuit.{Circuit, no_transistor}
use Rattle.format.proofs.Legal.{LegalCell}
use Rattle.rules.specs.State.{State, value_at}
use Rattle.rules.specs.Kept.{Channel, kept}
use Rattle.rules.proofs.State.{Numbered, Bits}
use Rattle.rules.proofs.Label.{all_legal}
use Rattle.rules.proofs.Forest.{Cut, Rising, numbered}
use Rattle.rules.proofs.Walk.{Kept, kept_kept}
use Rattle.rules.proofs.Range.{Limited, legal_limited, reach_root, sum_reach, load_reach}
use Rattle.net.specs.Roots.{leaf_length, roots_length}
use Rattle.plain.specs.Leaf.{kept_by, is_kept, leaf_state, leaf_channels}
use Rattle.plain.specs.Ready.{Ranged}
use Rattle.descent.specs.Settle.{Calm, is_of}
use Rattle.descent.proofs.Channels.{by_take, by_leave, Flagged, by_flagged, kept_by_lem}

-- a transistor whose flag is up is a channel
pub by_in : (flag : ℕ → Bool) (i : ℕ) (ts : List Transistor) (j : ℕ) → j < length ts → flag (i + j) ≡ true → Memᴰ (numbered (i + j) (get_or ts j no_transistor)) (kept_by flag i ts)
by_in flag i [] j h e = absurd (omega arith)
by_in flag i (t ∷ ts) zero h e =
    let z : i + 0 ≡ i = omega arith in
    rw z (rw (by_take flag i t ts (rw z at e)) (mathlib.Core.List.Memᴰ.head refl))
by_in flag i (t ∷ ts) (suc j) h e =
    let z : i + suc j ≡ suc i + j = omega arith in
    let below : Memᴰ (numbered (i + suc j) (get_or ts j no_transistor)) (kept_by flag (suc i) ts) = rw z (by_in flag (suc i) ts j (omega arith) (rw z at e)) in
    ⊎_elim
    (λ (b : flag i ≡ true). rw (by_take flag i t ts b) (mathlib.Core.List.Memᴰ.tail below))
    (λ (b : flag i ≡ false). rw (by_leave flag i t ts b) below)
    (bool_cases (flag i))

-- the numbers of the channels rise
pub by_rising : (flag : ℕ → Bool) (i : ℕ) (ts : List Transistor) → Rising (kept_by flag i ts)
unfolding kept_by Rising
by_rising flag i [] = tt
by_rising flag i (t ∷ ts) = by (flag i) (by_rising flag (suc i) ts)
  where
    by : (b : Bool) → Rising (kept_by flag (suc i) ts) → Rising (cond b (numbered i t ∷ kept_by flag (suc i) ts) (kept_by flag (suc i) ts))
    by true r = (λ j m. (by_flagged flag (suc i) ts j m).least, r)
    by false r = r

module _ (c : Circuit) (cell : LegalCell c) (s : State) (numbers : List ℕ)
    (within : (i : ℕ) → i < length c.transistors → is_kept numbers i ≡ true → is_of (kept c s) i ≡ true) where
  -- the channels are among the kept ones
  pub leaf_kept : (k : Channel) → Memᴰ k (leaf_channels c numbers) → Memᴰ k (kept c s)
  leaf_kept k m =
      let f : Flagged (is_kept numbers) 0 c.transistors k = by_flagged (is_kept numbers) 0 c.transistors k m in
      let z : k.number - 0 ≡ k.number = omega arith in
      let o : 0 + k.number ≡ k.number = omega arith in
      let is : numbered (0 + k.number) (get_or c.transistors k.number no_transistor) ≡ k =
      rw o (ap (numbered k.number) (sym (f.is ∙ ap (λ (i : ℕ). get_or c.transistors i no_transistor) z))) in
      rw (kept_by_lem c s)
      (subst (λ (j : Channel). Memᴰ j (kept_by (is_of (kept c s)) 0 c.transistors)) is
      (by_in (is_of (kept c s)) 0 c.transistors k.number (omega (arith, f.most)) (rw o (within k.number (omega (arith, f.most)) f.up))))

  leaf_forest : Kept c (leaf_channels c numbers)
  leaf_forest =
      let all : Kept c (kept c s) = kept_kept c s (all_legal cell) in
      record {
        rising = by_rising (is_kept numbers) 0 c.transistors;
        forest = λ k m e.
            let cut : Cut c (kept c s) k = all.forest k (leaf_kept k m) e in
            record { side = cut.side; differs = cut.differs; same = λ j mj. cut.same j (leaf_kept j mj) };
        legal = λ k m. all.legal k (leaf_kept k m);
      }

  -- so the charges of the walks stay small
  pub leaf_ranged : Ranged c (leaf_state c 0 numbers) (leaf_channels c numbers)
  leaf_ranged =
      let few : Limited c = legal_limited cell in
      record {
        sums = λ a n h. omega (arith, reach_root c (leaf_channels c numbers) leaf_forest a n h, cell.limits.most_nodes_lem, sum_reach c (leaf_state c 0 numbers) few (leaf_channels c numbers) a none n);
        loads = λ a sharing new n h. omega (arith, reach_root c (leaf_channels c numbers) leaf_forest a n h, cell.limits.most_nodes_lem, load_reach c (leaf_state c 0 numbers) few (leaf_channels c numbers) a none n sharing new);
      }

  -- numbers with the values of a state are calm
  pub leaf_calm : length numbers ≡ roots_length → get_or numbers 0 0 ≡ 0 → get_or numbers 1 0 ≡ 1 → Bits c s → ((m : ℕ) → Numbered c m → get_or numbers m 0 ≡ value_at s m) → Calm c numbers
  leaf_calm long ground supply bits values = record {
    leaf = record {
      long = simp length-take (omega arith);
      ground = first 0 (omega arith) ∙ ground;
      supply = first 1 (omega arith) ∙ supply;
      bits = λ n h.
          rw (first n (omega (arith, cell.limits.most_nodes_lem)))
          (⊎_elim (λ (r : n < 2). rail n r) (λ (l : 2 ≤ n). let i : Numbered c n = record { least = l; most = h } in rw (values n i) (bits.bit n i)) (lt_or_ge n 2));
    };
    charges = leaf_ranged;
  }
    where
      first : (i : ℕ) → i < leaf_length → get_or (take leaf_length numbers) i 0 ≡ get_or numbers i 0
      first i h = get_or-take leaf_length numbers i 0 h

      rail : (n : ℕ) → n < 2 → get_or numbers n 0 ≤ 1
      rail zero h = omega (arith, ground)
      rail (suc zero) h = omega (arith, supply)
      rail (suc (suc n)) h = absurd (omega arith)

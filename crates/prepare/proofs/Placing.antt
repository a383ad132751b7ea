-- The roots in their places: lists copied into one of zeros.
use Rattle.std.proofs.Common.{◌≡◌, ◌∙◌, ap, List, ℕ, ◌+◌, ◌-◌, ◌<◌, ◌≤◌, ◌++◌, length, get_or, take, drop, replicate, arith}
use Rattle.std.proofs.lemmas.List.{length-take-le, length-append, length-drop, length-replicate, get_or-replicate, get_or-take, get_or-drop, get_or_append_left, get_or-append_right, get_or_past}
use mathlib.Core.Logic.{⊎_elim}
use borrow.Rule.Slice.PartMut.{put_mid}
use Rattle.lists.proofs.Cases.{lt_or_ge}
use Rattle.net.specs.Roots.{seeds_place, pending_place, all_roots_length}
use Rattle.prepare.specs.Roots.{NodeRoots, KeptRoots}

-- k numbers copied into a list from place a on
module _ (a k : ℕ) (xs ys : List ℕ) (long : length ys ≡ k) (room : a + k ≤ length xs) where
  front : length (take a xs) ≡ a
  front = length-take-le a xs (omega (arith, room))

  pub put_length : length (put_mid a k xs ys) ≡ length xs
  put_length = omega (arith, room, long, front, length-append (take a xs) (ys ++ drop k (drop a xs)), length-append ys (drop k (drop a xs)), length-drop k (drop a xs), length-drop a xs)

  pub put_below : (j : ℕ) → j < a → get_or (put_mid a k xs ys) j 0 ≡ get_or xs j 0
  put_below j h = get_or_append_left (take a xs) (ys ++ drop k (drop a xs)) 0 j (omega (arith, front)) ∙ get_or-take a xs j 0 h

  pub put_within : (i j : ℕ) → j ≡ a + i → i < k → get_or (put_mid a k xs ys) j 0 ≡ get_or ys i 0
  put_within i j e h =
      let at : j - a ≡ i = omega arith in
      get_or-append_right (take a xs) (ys ++ drop k (drop a xs)) a j 0 front (omega arith)
      ∙ ap (λ (m : ℕ). get_or (ys ++ drop k (drop a xs)) m 0) at
      ∙ get_or_append_left ys (drop k (drop a xs)) 0 i (omega (arith, long))

  pub put_past : (j : ℕ) → a + k ≤ j → get_or (put_mid a k xs ys) j 0 ≡ get_or xs j 0
  put_past j h =
      let at : a + (k + (j - a - k)) ≡ j = omega arith in
      get_or-append_right (take a xs) (ys ++ drop k (drop a xs)) a j 0 front (omega arith)
      ∙ get_or-append_right ys (drop k (drop a xs)) k (j - a) 0 long (omega arith)
      ∙ get_or-drop k (drop a xs) (j - a - k) 0
      ∙ get_or-drop a xs (k + (j - a - k)) 0
      ∙ ap (λ (m : ℕ). get_or xs m 0) at

-- the kept functions behind the values
pub kept_placed : {before kept ys : List ℕ} → length before ≡ all_roots_length → length kept ≡ 64 → ys ≡ kept → KeptRoots before kept 64 (put_mid 26 64 before ys)
kept_placed {before} {kept} {ys} long all same = record {
  kept_at = λ i h. put_within 26 64 before ys whole room i (26 + i) (omega arith) h ∙ ap (λ (xs : List ℕ). get_or xs i 0) same;
  below_at = λ j h. put_below 26 64 before ys whole room j h;
  above_at = λ j h. put_past 26 64 before ys whole room j h;
}
  where
    whole : length ys ≡ 64
    whole = ap (λ (xs : List ℕ). length xs) same ∙ all

    room : 26 + 64 ≤ length before
    room = omega (arith, long)

-- a list of zeros, and 0 past its end
abbrev blank : List ℕ
blank = replicate all_roots_length 0

blank_length : length blank ≡ all_roots_length
blank_length = length-replicate {A = ℕ} all_roots_length 0

blank_at : (j : ℕ) → get_or blank j 0 ≡ 0
blank_at j = ⊎_elim (λ (h : j < all_roots_length). get_or-replicate all_roots_length j 0 0 h) (λ (h : all_roots_length ≤ j). get_or_past blank j 0 (omega (arith, blank_length))) (lt_or_ge j all_roots_length)

-- the first values of the nodes, and their seeds
module _ (a b : List ℕ) (count k : ℕ) (a_long : length a ≡ count) (b_long : length b ≡ k) (ek : k ≡ count) (few : count ≤ 26) where
  abbrev with_values : List ℕ
  with_values = put_mid 0 count blank a

  abbrev with_seeds : List ℕ
  with_seeds = put_mid seeds_place k with_values b

  room : 0 + count ≤ length blank
  room = omega (arith, blank_length, few)

  values_length : length with_values ≡ all_roots_length
  values_length = put_length 0 count blank a a_long room ∙ blank_length

  seeds_room : seeds_place + k ≤ length with_values
  seeds_room = omega (arith, values_length, few, ek)

  pub pending_room : pending_place + count ≤ length with_seeds
  pending_room = omega (arith, put_length seeds_place k with_values b b_long seeds_room, values_length, few)

  rest_blank : (j : ℕ) → count ≤ j → get_or with_values j 0 ≡ 0
  rest_blank j h = put_past 0 count blank a a_long room j (omega arith) ∙ blank_at j

-- and their next changes
module _ (values seeds waiting a b d : List ℕ) (count k m : ℕ) (long : length values ≡ 26) (long_seeds : length seeds ≡ 26) (long_waiting : length waiting ≡ 26) (few : count ≤ 26) (ek : k ≡ count) (em : m ≡ count)
    (ea : a ≡ take count values) (eb : b ≡ take count seeds) (ed : d ≡ take count waiting) where
  taken : (xs ys : List ℕ) → length xs ≡ 26 → ys ≡ take count xs → length ys ≡ count
  taken xs ys l e = ap (λ (zs : List ℕ). length zs) e ∙ length-take-le count xs (omega (arith, few, l))

  same : (xs ys : List ℕ) (n : ℕ) → ys ≡ take count xs → n < count → get_or ys n 0 ≡ get_or xs n 0
  same xs ys n e h = ap (λ (zs : List ℕ). get_or zs n 0) e ∙ get_or-take count xs n 0 h

  pub nodes_placed : {more : ℕ} → count ≡ more → NodeRoots values seeds waiting more (put_mid pending_place m (put_mid seeds_place k (put_mid 0 count blank a) b) d)
  nodes_placed {more} e =
      let al : length a ≡ count = taken values a long ea in
      let bl : length b ≡ k = omega (arith, taken seeds b long_seeds eb, ek) in
      let dl : length d ≡ m = omega (arith, taken waiting d long_waiting ed, em) in
      let one : List ℕ = put_mid 0 count blank a in
      let two : List ℕ = put_mid seeds_place k one b in
      let past : pending_place + m ≤ length two = omega (arith, pending_room a b count k al bl ek few, em) in
      let here : seeds_place + k ≤ length one = seeds_room a b count k al bl ek few in
      let start : 0 + count ≤ length blank = room a b count k al bl ek few in
      let zero : (j : ℕ) → count ≤ j → get_or one j 0 ≡ 0 = rest_blank a b count k al bl ek few in
      let below : (j : ℕ) → j < pending_place → get_or (put_mid pending_place m two d) j 0 ≡ get_or two j 0 = put_below pending_place m two d dl past in
      record {
        value_at_lem = λ n h. below n (omega (arith, few, e)) ∙ put_below seeds_place k one b bl here n (omega (arith, few, e)) ∙ put_within 0 count blank a al start n n (omega arith) (omega (arith, e)) ∙ same values a n ea (omega (arith, e));
        seed_at = λ n h. below (seeds_place + n) (omega (arith, few, e)) ∙ put_within seeds_place k one b bl here n (seeds_place + n) (omega arith) (omega (arith, ek, e)) ∙ same seeds b n eb (omega (arith, e));
        pending_at = λ n h. put_within pending_place m two d dl past n (pending_place + n) (omega arith) (omega (arith, em, e)) ∙ same waiting d n ed (omega (arith, e));
        rest_at = λ j p q r.
            ⊎_elim
            (λ (h : j < seeds_place). below j (omega arith) ∙ put_below seeds_place k one b bl here j h ∙ zero j (beyond j p e))
            (λ (h : seeds_place ≤ j).
            ⊎_elim
            (λ (g : j < pending_place). below j g ∙ put_past seeds_place k one b bl here j (omega (arith, q h g, ek, e)) ∙ zero j (omega (arith, few)))
            (λ (g : pending_place ≤ j). put_past pending_place m two d dl past j (omega (arith, r g, em, e)) ∙ put_past seeds_place k one b bl here j (omega (arith, few, ek)) ∙ zero j (omega (arith, few)))
            (lt_or_ge j pending_place))
            (lt_or_ge j seeds_place);
      }
    where
      beyond : {more : ℕ} (j : ℕ) → (j < 26 → more ≤ j) → count ≡ more → count ≤ j
      beyond j p e = ⊎_elim (λ (h : j < 26). omega (arith, p h, e)) (λ (h : 26 ≤ j). omega (arith, few)) (lt_or_ge j 26)

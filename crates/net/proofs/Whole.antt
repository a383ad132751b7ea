-- The parts together: fields, arms, groups.
use mathlib.Core.Path.{◌≡◌, refl, sym, ◌∙◌, ap, subst}
use mathlib.Core.List.{List}
use Prim.Native.Nat.{ℕ, ◌+◌, ◌*◌, ◌≤◌, ◌<◌}
use native.Mathlib.Omega.{arith}
use lib.ListN.{length, take, drop, replicate, length-take, length-drop, length-replicate}
use lib.Seq.{ext_get_or, get_or-take, get_or-drop}
use Rattle.refusal.specs.Answer.{answered}
use Rattle.format.specs.Circuit.{Circuit}
use Rattle.format.specs.Legal.{check_circuit}
use Rattle.lists.proofs.Padded.{replicate_read}
use Rattle.rules.specs.Label.{label_at}
use Rattle.rules.specs.Group.{groups}
use Rattle.net.specs.Net.{net_length, at, net_circuit, net_arms, arms_of}
use mathlib.Core.Bool.{false}
use Rattle.net.specs.Loop.{closes}
use Rattle.net.specs.Laid.{Within, Laid}
use Rattle.net.specs.Written.{Fielded, Armed, Grouped}
use Rattle.net.proofs.Laying.{nodes_length, transistors_length, legal_within, Same, same_only, same_circuit, same_within}
use Rattle.net.proofs.Listed.{armed_all}
use Rattle.net.proofs.Joins.{length_groups}

-- a part of two columns that agree there
part_same : (a b : List ℕ) (p k : ℕ) → length b ≡ length a → ((j : ℕ) → j < p + k → at b j ≡ at a j) → take k (drop p b) ≡ take k (drop p a)
part_same a b p k len same =
    ext_get_or 0 (take k (drop p b)) (take k (drop p a)) (simp (length-take, length-drop) (rw len refl))
    (λ i h.
    let l : i < k = omega (arith, length-take k (drop p b)) in
    get_or-take k (drop p b) i 0 l ∙ get_or-drop p b i 0 ∙ same (p + i) (omega arith) ∙ sym (get_or-take k (drop p a) i 0 l ∙ get_or-drop p a i 0))

module _ (c : Circuit) (b : List ℕ) (legal : check_circuit c ≡ answered c) (fields : Fielded c (replicate 2315 0) b) where
  pub fields_long : length b ≡ net_length
  fields_long = fields.rest.long ∙ length-replicate {A = ℕ} 2315 0

  pub fields_within : Within b
  fields_within = legal_within b (subst (λ (x : Circuit). check_circuit x ≡ answered x) (sym fields.circuit) legal)

  pub fields_bare : (n : ℕ) → n < 26 → at b (592 + n) ≡ 0
  fields_bare n h = fields.rest.above (592 + n) (omega arith) ∙ replicate_read 2315 (592 + n) 0

  module _ (d : List ℕ) (armed : Armed (net_circuit b).transistors (at b 1) b d) where
    same_d : Same b d
    same_d = same_only (omega arith) armed.rest

    pub arms_long : length d ≡ net_length
    arms_long = armed.rest.long ∙ fields_long

    pub arms_within : Within d
    arms_within = same_within b d same_d fields_within

    module _ (e : List ℕ) (grouped : Grouped (net_circuit d) d e) where
      same_e : Same b e
      same_e j h = grouped.rest.below j (omega arith) ∙ same_d j h

      nodes_e : at e 0 ≡ at b 0
      nodes_e = same_e 0 (omega arith)

      degree_e : (n : ℕ) → n < 26 → at e (592 + n) ≤ 64
      degree_e n h = omega (arith, grouped.rest.below (592 + n) (omega arith), armed.degree n h, fields_within.transistors)

      arms_e : (n : ℕ) → n < 26 → net_arms e n ≡ arms_of c n
      arms_e n h =
          let few = degree_e n h in
          let listed : net_arms d n ≡ arms_of (net_circuit b) n = armed_all (net_circuit b).transistors (at b 1) b d (omega (arith, transistors_length b)) armed n h in
          part_same d e (624 + 64 * n) (at e (592 + n)) grouped.rest.long (λ j l. grouped.rest.below j (omega arith))
          ∙ ap (λ (k : ℕ). take k (drop (624 + 64 * n) d)) (grouped.rest.below (592 + n) (omega arith))
          ∙ listed
          ∙ ap (λ (x : Circuit). arms_of x n) fields.circuit

      group_e : (n : ℕ) → 2 ≤ n → n < 2 + at e 0 → at e (2288 + n) ≡ label_at (groups c) n
      group_e n least most =
          let size : length (groups (net_circuit d)) ≡ at d 0 = length_groups (net_circuit d) ∙ nodes_length d in
          let same : at d 0 ≡ at b 0 = same_d 0 (omega arith) in
          let n-e = nodes_e in
          grouped.labels n least (omega arith) ∙ ap (λ (x : Circuit). label_at (groups x) n) (same_circuit b d same_d fields_within ∙ fields.circuit)

      pub laid : Laid c e
      laid = record {
        long = grouped.rest.long ∙ arms_long;
        circuit = same_circuit b e same_e fields_within ∙ fields.circuit;
        legal = legal;
        within = same_within b e same_e fields_within;
        degree = λ n h. degree_e n (omega (arith, nodes_e, fields_within.nodes));
        arms = λ n h. arms_e n (omega (arith, nodes_e, fields_within.nodes));
        group = group_e;
        loops = λ i le lt.
            let same : net_circuit d ≡ c = same_circuit b d same_d fields_within ∙ fields.circuit in
            subst (λ (x : Circuit). closes x i ≡ false) same (grouped.loops i le (omega (arith, transistors_length d, same_e 1 (omega arith), same_d 1 (omega arith))));
      }

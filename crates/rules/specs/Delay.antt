-- Step rule 6, as document 02's wish 6 amends it: the delay walk.
use Rattle.std.specs.Prelude.{ℕ, zero, suc, List, Bool, ◌||◌, ◌&&◌, cond, eqb}
use Rattle.std.proofs.Math.Option.{Option, some}
use Rattle.units.specs.declared.Ohms.{Ohms}
use Rattle.units.specs.declared.Femtofarads.{Femtofarads}
use Rattle.units.specs.declared.Resistance.{Resistance}
use Rattle.units.specs.declared.Resistance.TheVariants.{Infinite, Finite}
use Rattle.units.specs.Units.{ohms, femtofarads}
use Rattle.units.specs.Rules as units
use Rattle.format.specs.declared.Transistor.{Transistor}
use Rattle.format.specs.Circuit.{Circuit, node_record}
use Rattle.rules.specs.State.{State, value_at, is_driven}
use Rattle.rules.specs.Kept.{Channel}
use Rattle.rules.specs.Sum.{leads, far_end, over_arms}

-- resistance to the new value, and the charge that has to move
pub record Load : Type 0 where
  pub resistance : Resistance
  pub charge : Femtofarads

-- a driven end: no charge; resistance 0 where it is at the new value, else infinite
abbrev pub driven_load : ℕ → ℕ → Load
driven_load new value = record { resistance = cond (eqb value new) (Finite (ohms 0)) Infinite; charge = femtofarads 0 }

-- an inner node by itself: its capacitance counts where its value is not the new one
abbrev pub own_load : ℕ → Femtofarads → ℕ → Load
own_load new capacitance value = record { resistance = Infinite; charge = cond (eqb value new) (femtofarads 0) capacitance }

abbrev pub load_arm : Transistor → Load → Load
load_arm t far = record {
  resistance = units.delay_arm t.resistance far.resistance;
  charge = units.share t.resistance far.resistance far.charge;
}

abbrev pub join_loads : Load → Load → Load
join_loads a b = record {
  resistance = units.parallel a.resistance b.resistance;
  charge = units.joined a.charge b.charge;
}

-- Where the walk ends: at a driven end. Where charge is shared (`sharing`: neither side drives the node that the walk is for), also at an inner
-- node that already holds the new value: it counts as a driven end at that value.
abbrev pub is_end : Bool → ℕ → Circuit → State → ℕ → Bool
is_end sharing new c s n = is_driven c n || (sharing && eqb (value_at s n) new)

-- the same walk as the node sum's, for the new value, but for its ends
unfoldable pub node_load : ℕ → Bool → ℕ → Circuit → State → List Channel → Option ℕ → ℕ → Load
node_load zero sharing new c s ks from n =
    cond (is_end sharing new c s n) (driven_load new (value_at s n)) (own_load new (node_record c n).capacitance (value_at s n))
node_load (suc allowance) sharing new c s ks from n =
    cond (is_end sharing new c s n)
    (driven_load new (value_at s n))
    (over_arms (leads from n)
    (λ (load : Load) (k : Channel). join_loads load (load_arm k.transistor (node_load allowance sharing new c s ks (some k.number) (far_end n k))))
    (own_load new (node_record c n).capacitance (value_at s n))
    ks)

-- what stands for the ohms of an infinite resistance. No node that changes meets it (law `changing-finite`), so it is no rule of its own.
abbrev pub no_path : Ohms
no_path = ohms units.ceiling

abbrev pub in_ohms : Resistance → Ohms
in_ohms Infinite = no_path
in_ohms (Finite r) = r

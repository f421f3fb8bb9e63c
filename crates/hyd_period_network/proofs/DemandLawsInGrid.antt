-- The laws of junctions' demands stand for those of the grid of a period.
use Rattle.std.proofs.Common.{◌≡◌, ℤ, pos, refl}
use Rattle.hyd_num.specs.Rational.{floor, ceiling}
use Rattle.hyd_spec.specs.ProgramTypes.{Project}
use Rattle.hyd_spec.specs.DemandsHeadsAndPumpLifts.{pressure_value}
use Rattle.hyd_spec_certificates.specs.EnclosingFunctions.{demand_low, demand_high, quadratic_low, quadratic_high}
use Rattle.hyd_law.specs.DemandLaws.{out_low, out_high, IsSoundOut}
use Rattle.hyd_law.specs.declared.demand_law_kinds.OutLaw.{OutLaw}
use Rattle.hyd_law.specs.declared.demand_law_kinds.OutLaw.TheVariants.{Fixed as FixedOut, Pda as PdaOut}
use Rattle.hyd_period_network.specs.Demands.{demand_of_law, IsHeld}
use Rattle.hyd_theorems_on_definitions.specs.PressureDrivenDemand.{stepped}

-- a demand of 0 is fixed
pub nothing_held : (project : Project) → IsHeld project (FixedOut (record { demand = pos 0 }))
nothing_held project = record { is_law = refl; sound = tt; accepts = λ p le. tt }

steps_at : (demand : ℤ) (between : ℤ → ℤ) (p a b a' b' : ℤ) → a ≡ a' → b ≡ b'
    → stepped demand a b between p ≡ stepped demand a' b' between p
steps_at demand between p a b a' b' e f = rw (e, f) refl

pub demand_low_is : (law : OutLaw) → IsSoundOut law → (p : ℤ) → out_low law p ≡ demand_low (demand_of_law law) p
demand_low_is (FixedOut l) sound p = refl
demand_low_is (PdaOut l) sound p = steps_at l.demand (quadratic_low l.cap) p l.p0.hi l.pf.hi
    (ceiling (pressure_value l.us l.minimum)) (ceiling (pressure_value l.us l.required)) sound.none.ceiling_is
    sound.all.ceiling_is

pub demand_high_is : (law : OutLaw) → IsSoundOut law → (p : ℤ) → out_high law p ≡ demand_high (demand_of_law law) p
demand_high_is (FixedOut l) sound p = refl
demand_high_is (PdaOut l) sound p = steps_at l.demand (quadratic_high l.cap) p l.p0.lo l.pf.lo
    (floor (pressure_value l.us l.minimum)) (floor (pressure_value l.us l.required)) sound.none.floor_is
    sound.all.floor_is

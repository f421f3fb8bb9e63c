-- The laws of junctions' demands at a time, and junctions as a net has them.
-- Source: EPANET 2.2 User Manual, chapter 3 (demands, pressure-driven demand).
use Rattle.std.specs.Prelude.{◌≡◌, ◌<◌, ◌≤◌, ◌*◌, ℕ, ℤ, unsigned_abs, List, length, slice_index_or}
use Rattle.std.specs.Option.{option_map}
use Rattle.hyd_spec.specs.ProgramTypes.{Project, Junction}
use Rattle.hyd_spec.specs.DemandsHeadsAndPumpLifts.{demand_of, pressure_value}
use Rattle.hyd_spec_certificates.specs.Certificate.{box_limit}
use Rattle.hyd_spec_certificates.specs.EnclosingFunctions.{DemandLaw, Fixed, Driven}
use Rattle.hyd_spec_certificates.specs.PeriodNetwork.{IsDemandLaw}
use Rattle.hyd_law.specs.DemandLaws.{IsSoundOut, OutAccepts}
use Rattle.hyd_law.specs.declared.law_kinds.Quad.{Quad}
use Rattle.hyd_law.specs.declared.demand_law_kinds.OutLaw.{OutLaw}
use Rattle.hyd_law.specs.declared.demand_law_kinds.OutLaw.TheVariants.{Fixed as FixedOut, Pda as PdaOut}
use Rattle.hyd_period_network.specs.declared.junctions_ends_and_settings.NetJunction.{NetJunction}

-- the law of a demand that a law of the program stands for
abbrev pub demand_of_law : OutLaw → DemandLaw
demand_of_law (FixedOut l) = Fixed l.demand
demand_of_law (PdaOut l) = Driven l.demand l.cap (pressure_value l.us l.minimum) (pressure_value l.us l.required)

-- the demand that it is the law of, in flow ticks
abbrev pub demand_held : OutLaw → ℤ
demand_held (FixedOut l) = l.demand
demand_held (PdaOut l) = l.demand

-- a law is that of a demand in a network: driven by pressure or fixed, its numbers are sound, and it accepts each
-- difference of two heads of the box as pressure
pub record IsOutLawOf (project : Project) (demand : ℤ) (law : OutLaw) : Type 0 where
  pub is_law : IsDemandLaw project demand (demand_of_law law)
  pub sound : IsSoundOut law
  pub accepts : (p : ℤ) → unsigned_abs p ≤ 2 * box_limit → OutAccepts law p

-- a law is that of the demand that it holds
abbrev pub IsHeld : Project → OutLaw → Type 0
IsHeld project law = IsOutLawOf project (demand_held law) law

-- so is each
abbrev pub AreHeld : Project → List OutLaw → Type 0
AreHeld project demands = (k : ℕ) (law : OutLaw) → k < length demands → IsHeld project (slice_index_or demands k law)

-- the first n laws are those of the junctions' demands at a time
abbrev pub AreDemandsAt : Project → ℕ → List OutLaw → ℕ → Type 0
AreDemandsAt project time demands n = (k : ℕ) (junction : Junction) (law : OutLaw) → k < n
    → IsOutLawOf project (demand_of project time (slice_index_or project.junctions.list k junction))
    (slice_index_or demands k law)

-- a junction of the network of a period has its elevation and its emitter
pub record IsNetJunction (junction : Junction) (here : NetJunction) : Type 0 where
  pub elevation : here.elevation ≡ junction.elevation
  pub emitter : option_map (λ (e : Quad). e.cap) here.emitter ≡ junction.emitter

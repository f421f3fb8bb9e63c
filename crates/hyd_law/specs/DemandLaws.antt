-- The law of a junction's demand.
-- Source: EPANET 2.2 User Manual, chapter 3 (demands, pressure-driven demand).
use Rattle.std.specs.Prelude.{ℤ, pos, ◌*ℤ◌, ◌≤ℤ◌, ◌≡◌, ⊤}
use Rattle.std.proofs.Common.{subst, sym}
use Rattle.hyd_num.specs.Rational.{negated, floor, ceiling}
use Rattle.hyd_spec.specs.ProgramTypes.{PressureDemand}
use Rattle.hyd_spec.specs.DemandsHeadsAndPumpLifts.{pressure_value}
use Rattle.hyd_spec.specs.Law.{Relation, QuadraticLaw, lifted, flow_at_least, flow_at_most}
use Rattle.hyd_spec_certificates.specs.EnclosingFunctions.{quadratic_low, quadratic_high}
use Rattle.hyd_theorems_on_definitions.specs.SoundLawsAndGrids.{IsLaw, IsSoundCapacity}
use Rattle.hyd_theorems_on_definitions.specs.PressureDrivenDemand.{steps_at_least, steps_at_most, stepped}
use Rattle.hyd_theorems_on_definitions.proofs.DemandLaws.{IsLaw-fixed, IsLaw-driven}
use Rattle.hyd_law.specs.ComposedLaws.{IsDifference, IsLift}
use Rattle.hyd_law.specs.declared.demand_law_kinds.Pda.{Pda}
use Rattle.hyd_law.specs.declared.demand_law_kinds.OutLaw.{OutLaw}
use Rattle.hyd_law.specs.declared.demand_law_kinds.OutLaw.TheVariants.{Fixed as FixedOut, Pda as PdaOut}

-- ---- by pressure

-- the exact flow at a pressure is at least a number
abbrev pub pda_at_least : Pda → Relation
pda_at_least l = steps_at_least (pressure_value l.us l.minimum) (pressure_value l.us l.required) l.demand
    (lifted (negated (pressure_value l.us l.minimum)) (flow_at_least (QuadraticLaw l.cap)))

-- it is at most a number
abbrev pub pda_at_most : Pda → Relation
pda_at_most l = steps_at_most (pressure_value l.us l.minimum) (pressure_value l.us l.required) l.demand
    (lifted (negated (pressure_value l.us l.minimum)) (flow_at_most (QuadraticLaw l.cap)))

-- at most the exact flow, in flow ticks, at a pressure of whole head ticks
abbrev pub pda_low : Pda → ℤ → ℤ
pda_low l p = stepped l.demand l.p0.hi l.pf.hi (quadratic_low l.cap) p

-- at least it
abbrev pub pda_high : Pda → ℤ → ℤ
pda_high l p = stepped l.demand l.p0.lo l.pf.lo (quadratic_high l.cap) p

-- a demand above 0, its capacity by the two pressures, these rounded, and the minimum one not below 0
pub record IsSoundPda (l : Pda) : Type 0 where
  pub demanded : pos 1 ≤ℤ l.demand
  pub not_negative : pos 0 ≤ℤ l.minimum.nano
  pub origin : l.cap.origin ≡ PressureDemand l.demand l.minimum l.required l.us
  pub capacity : IsSoundCapacity l.cap
  pub none : IsLift (pressure_value l.us l.minimum) l.p0
  pub all : IsLift (pressure_value l.us l.required) l.pf

moved : (A B : Relation) (D : ℤ) (f g : ℤ → ℤ) (a b c d a' b' c' d' : ℤ) → a ≡ a' → b ≡ b' → c ≡ c' → d ≡ d'
    → IsLaw A B (stepped D a' b' f) (stepped D c' d' g) → IsLaw A B (stepped D a b f) (stepped D c d g)
moved A B D f g a b c d a' b' c' d' e1 e2 e3 e4 law =
    subst (λ (z : ℤ). IsLaw A B (stepped D z b f) (stepped D c d g)) (sym e1)
    (subst (λ (z : ℤ). IsLaw A B (stepped D a' z f) (stepped D c d g)) (sym e2)
    (subst (λ (z : ℤ). IsLaw A B (stepped D a' b' f) (stepped D z d g)) (sym e3)
    (subst (λ (z : ℤ). IsLaw A B (stepped D a' b' f) (stepped D c' z g)) (sym e4) law)))

pub IsLaw-pda : (l : Pda) → IsSoundPda l → IsLaw (pda_at_least l) (pda_at_most l) (pda_low l) (pda_high l)
IsLaw-pda l sound =
    moved (pda_at_least l) (pda_at_most l) l.demand (quadratic_low l.cap) (quadratic_high l.cap) l.p0.hi l.pf.hi
    l.p0.lo l.pf.lo
    (ceiling (pressure_value l.us l.minimum)) (ceiling (pressure_value l.us l.required))
    (floor (pressure_value l.us l.minimum)) (floor (pressure_value l.us l.required))
    sound.none.ceiling_is sound.all.ceiling_is sound.none.floor_is sound.all.floor_is
    (IsLaw-driven l.demand l.cap l.minimum l.required l.us sound.demanded sound.origin sound.capacity)

-- ---- any demand

-- the exact flow is at least a number
abbrev pub out_at_least : OutLaw → Relation
out_at_least (FixedOut l) S x a = a ≤ℤ (pos S *ℤ l.demand)
out_at_least (PdaOut l) S x a = pda_at_least l S x a

-- it is at most a number
abbrev pub out_at_most : OutLaw → Relation
out_at_most (FixedOut l) S x a = (pos S *ℤ l.demand) ≤ℤ a
out_at_most (PdaOut l) S x a = pda_at_most l S x a

-- at most the exact flow, in flow ticks, at a pressure of whole head ticks
abbrev pub out_low : OutLaw → ℤ → ℤ
out_low (FixedOut l) p = l.demand
out_low (PdaOut l) p = pda_low l p

-- at least it
abbrev pub out_high : OutLaw → ℤ → ℤ
out_high (FixedOut l) p = l.demand
out_high (PdaOut l) p = pda_high l p

-- the numbers of the demand are those that a network gives it
abbrev pub IsSoundOut : OutLaw → Type 0
IsSoundOut (FixedOut l) = ⊤
IsSoundOut (PdaOut l) = IsSoundPda l

-- the pressures at which both are computed
abbrev pub OutAccepts : OutLaw → ℤ → Type 0
OutAccepts (FixedOut l) p = ⊤
OutAccepts (PdaOut l) p = IsDifference p

pub IsLaw-out : (law : OutLaw) → IsSoundOut law → IsLaw (out_at_least law) (out_at_most law) (out_low law)
    (out_high law)
IsLaw-out (FixedOut l) sound = IsLaw-fixed l.demand
IsLaw-out (PdaOut l) sound = IsLaw-pda l sound

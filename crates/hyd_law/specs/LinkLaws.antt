-- The law of any link, whichever kind of law it is.
use Rattle.std.specs.Prelude.{ℤ, pos, ◌+ℤ◌, ◌≤ℤ◌, ⊤}
use Rattle.std.specs.Int.{int_min}
use Rattle.hyd_num.specs.Rational.{floor, ceiling}
use Rattle.hyd_net.specs.Curves.{value_at}
use Rattle.hyd_spec_power_laws.specs.EnclosingFlows.{power_low, power_high}
use Rattle.hyd_spec_power_laws.specs.PowerCapacities.{IsMade}
use Rattle.hyd_spec.specs.DemandsHeadsAndPumpLifts.{lift_of}
use Rattle.hyd_spec.specs.Law.{Relation, Shut as ShutLaw, QuadraticLaw, LinearLaw, Bent as BentLaw, lifted}
use Rattle.hyd_spec.specs.Law.{PowerLaw, flow_at_least, flow_at_most}
use Rattle.hyd_spec_certificates.specs.EnclosingFunctions.{quadratic_low, quadratic_high, linear_flow}
use Rattle.hyd_theorems_on_definitions.specs.SoundLawsAndGrids.{IsLaw, IsSoundCapacity}
use Rattle.hyd_theorems_on_definitions.proofs.LinkLaws.{IsLaw-shut, IsLaw-capped, IsLaw-held}
use Rattle.hyd_theorems_on_definitions.proofs.EachLaw.{IsLaw-quad, IsLaw-straight, IsLaw-bent}
use Rattle.hyd_theorems_on_definitions.proofs.PipeLaws.{IsLaw-power}
use Rattle.hyd_law.specs.ComposedLaws.{IsDifference, IsLift, directed, directed_at_least, directed_at_most}
use Rattle.hyd_law.specs.ComposedLaws.{capped_at_least}
use Rattle.hyd_law.specs.ComposedLaws.{capped_at_most, held, held_at_least, held_at_most}
use Rattle.hyd_law.specs.ComposedLawsAreLaws.{IsLaw-directed, IsLaw-lift}
use Rattle.hyd_law.specs.KnotsOfStraightLines.{places, IsCurve}
use Rattle.hyd_law.specs.declared.link_law_kinds.LinkLaw.{LinkLaw}
use Rattle.hyd_law.specs.declared.link_law_kinds.LinkLaw.TheVariants.{Shut, Quad, Linear, QuadOneWay, LinearOneWay}
use Rattle.hyd_law.specs.declared.link_law_kinds.LinkLaw.TheVariants.{Pump}
use Rattle.hyd_law.specs.declared.link_law_kinds.LinkLaw.TheVariants.{Limit, LinearLimit, LimitOneWay}
use Rattle.hyd_law.specs.declared.link_law_kinds.LinkLaw.TheVariants.{LinearLimitOneWay, Power, PowerOneWay}
use Rattle.hyd_law.specs.declared.link_law_kinds.LinkLaw.TheVariants.{Bent}

-- ---- the exact flow

-- the exact flow of a link at a head difference is at least a number
abbrev pub link_at_least : LinkLaw → Relation
link_at_least (Shut l) = flow_at_least ShutLaw
link_at_least (Quad l) = flow_at_least (QuadraticLaw l.cap)
link_at_least (Linear l) = flow_at_least LinearLaw
link_at_least (QuadOneWay l) = directed_at_least l.forward (flow_at_least (QuadraticLaw l.inner.cap))
link_at_least (LinearOneWay l) = directed_at_least l.forward (flow_at_least LinearLaw)
link_at_least (Pump l) = directed_at_least l.forward (lifted (lift_of l.inner.us l.inner.head l.inner.speed)
    (flow_at_least (QuadraticLaw l.inner.inner.cap)))
link_at_least (Limit l) = capped_at_least l.cap (flow_at_least (QuadraticLaw l.inner.cap))
link_at_least (LinearLimit l) = capped_at_least l.cap (flow_at_least LinearLaw)
link_at_least (LimitOneWay l) = directed_at_least l.forward (capped_at_least l.inner.cap
    (flow_at_least (QuadraticLaw l.inner.inner.cap)))
link_at_least (LinearLimitOneWay l) = directed_at_least l.forward
    (capped_at_least l.inner.cap (flow_at_least LinearLaw))
link_at_least (Power l) = flow_at_least (PowerLaw l.cap)
link_at_least (PowerOneWay l) = directed_at_least l.forward (flow_at_least (PowerLaw l.inner.cap))
link_at_least (Bent l) = held_at_least l.least l.most (flow_at_least (BentLaw (places l.inner.knots.list)))

-- it is at most a number
abbrev pub link_at_most : LinkLaw → Relation
link_at_most (Shut l) = flow_at_most ShutLaw
link_at_most (Quad l) = flow_at_most (QuadraticLaw l.cap)
link_at_most (Linear l) = flow_at_most LinearLaw
link_at_most (QuadOneWay l) = directed_at_most l.forward (flow_at_most (QuadraticLaw l.inner.cap))
link_at_most (LinearOneWay l) = directed_at_most l.forward (flow_at_most LinearLaw)
link_at_most (Pump l) = directed_at_most l.forward (lifted (lift_of l.inner.us l.inner.head l.inner.speed)
    (flow_at_most (QuadraticLaw l.inner.inner.cap)))
link_at_most (Limit l) = capped_at_most l.cap (flow_at_most (QuadraticLaw l.inner.cap))
link_at_most (LinearLimit l) = capped_at_most l.cap (flow_at_most LinearLaw)
link_at_most (LimitOneWay l) = directed_at_most l.forward (capped_at_most l.inner.cap
    (flow_at_most (QuadraticLaw l.inner.inner.cap)))
link_at_most (LinearLimitOneWay l) = directed_at_most l.forward (capped_at_most l.inner.cap (flow_at_most LinearLaw))
link_at_most (Power l) = flow_at_most (PowerLaw l.cap)
link_at_most (PowerOneWay l) = directed_at_most l.forward (flow_at_most (PowerLaw l.inner.cap))
link_at_most (Bent l) = held_at_most l.least l.most (flow_at_most (BentLaw (places l.inner.knots.list)))

-- ---- its enclosing functions

-- at most the exact flow, in flow ticks, at a head difference of whole head ticks
abbrev pub link_low : LinkLaw → ℤ → ℤ
link_low (Shut l) d = pos 0
link_low (Quad l) d = quadratic_low l.cap d
link_low (Linear l) d = floor (linear_flow d)
link_low (QuadOneWay l) d = directed l.forward (quadratic_low l.inner.cap d)
link_low (LinearOneWay l) d = directed l.forward (floor (linear_flow d))
link_low (Pump l) d = directed l.forward (quadratic_low l.inner.inner.cap (d +ℤ l.inner.lift.lo))
link_low (Limit l) d = int_min l.cap (quadratic_low l.inner.cap d)
link_low (LinearLimit l) d = int_min l.cap (floor (linear_flow d))
link_low (LimitOneWay l) d = directed l.forward (int_min l.inner.cap (quadratic_low l.inner.inner.cap d))
link_low (LinearLimitOneWay l) d = directed l.forward (int_min l.inner.cap (floor (linear_flow d)))
link_low (Power l) d = power_low l.cap d
link_low (PowerOneWay l) d = directed l.forward (power_low l.inner.cap d)
link_low (Bent l) d = held l.least l.most (floor (value_at 1 (places l.inner.knots.list) d))

-- at least the exact flow
abbrev pub link_high : LinkLaw → ℤ → ℤ
link_high (Shut l) d = pos 0
link_high (Quad l) d = quadratic_high l.cap d
link_high (Linear l) d = ceiling (linear_flow d)
link_high (QuadOneWay l) d = directed l.forward (quadratic_high l.inner.cap d)
link_high (LinearOneWay l) d = directed l.forward (ceiling (linear_flow d))
link_high (Pump l) d = directed l.forward (quadratic_high l.inner.inner.cap (d +ℤ l.inner.lift.hi))
link_high (Limit l) d = int_min l.cap (quadratic_high l.inner.cap d)
link_high (LinearLimit l) d = int_min l.cap (ceiling (linear_flow d))
link_high (LimitOneWay l) d = directed l.forward (int_min l.inner.cap (quadratic_high l.inner.inner.cap d))
link_high (LinearLimitOneWay l) d = directed l.forward (int_min l.inner.cap (ceiling (linear_flow d)))
link_high (Power l) d = power_high l.cap d
link_high (PowerOneWay l) d = directed l.forward (power_high l.inner.cap d)
link_high (Bent l) d = held l.least l.most (ceiling (value_at 1 (places l.inner.knots.list) d))

-- ---- which values are laws

-- the capacity encloses what it is made of, or is what its pipe's numbers make, the lift is rounded, the knots rise and
-- the bounds are in order
abbrev pub IsSoundLink : LinkLaw → Type 0
IsSoundLink (Shut l) = ⊤
IsSoundLink (Quad l) = IsSoundCapacity l.cap
IsSoundLink (Linear l) = ⊤
IsSoundLink (QuadOneWay l) = IsSoundCapacity l.inner.cap
IsSoundLink (LinearOneWay l) = ⊤
IsSoundLink (Pump l) = IsLift (lift_of l.inner.us l.inner.head l.inner.speed) l.inner.lift
    × IsSoundCapacity l.inner.inner.cap
IsSoundLink (Limit l) = IsSoundCapacity l.inner.cap
IsSoundLink (LinearLimit l) = ⊤
IsSoundLink (LimitOneWay l) = IsSoundCapacity l.inner.inner.cap
IsSoundLink (LinearLimitOneWay l) = ⊤
IsSoundLink (Power l) = IsMade l.cap
IsSoundLink (PowerOneWay l) = IsMade l.inner.cap
IsSoundLink (Bent l) = (l.least ≤ℤ l.most) × IsCurve l.inner.knots.list

-- a head difference that the law is asked for, for a pump also with its lift
abbrev pub LinkAccepts : LinkLaw → ℤ → Type 0
LinkAccepts (Shut l) d = ⊤
LinkAccepts (Quad l) d = IsDifference d
LinkAccepts (Linear l) d = IsDifference d
LinkAccepts (QuadOneWay l) d = IsDifference d
LinkAccepts (LinearOneWay l) d = IsDifference d
LinkAccepts (Pump l) d = (IsDifference (d +ℤ l.inner.lift.lo) × IsDifference (d +ℤ l.inner.lift.lo))
    × (IsDifference (d +ℤ l.inner.lift.hi) × IsDifference (d +ℤ l.inner.lift.hi))
LinkAccepts (Limit l) d = IsDifference d
LinkAccepts (LinearLimit l) d = IsDifference d
LinkAccepts (LimitOneWay l) d = IsDifference d
LinkAccepts (LinearLimitOneWay l) d = IsDifference d
LinkAccepts (Power l) d = IsDifference d
LinkAccepts (PowerOneWay l) d = IsDifference d
LinkAccepts (Bent l) d = IsDifference d

-- ---- each of them is a law

pub IsLaw-link : (law : LinkLaw) → IsSoundLink law → IsLaw (link_at_least law) (link_at_most law) (link_low law)
    (link_high law)
IsLaw-link (Shut l) sound = IsLaw-shut
IsLaw-link (Quad l) sound = IsLaw-quad l.cap sound
IsLaw-link (Linear l) sound = IsLaw-straight
IsLaw-link (QuadOneWay l) sound = IsLaw-directed l.forward _ _ _ _ (IsLaw-quad l.inner.cap sound)
IsLaw-link (LinearOneWay l) sound = IsLaw-directed l.forward _ _ _ _ IsLaw-straight
IsLaw-link (Pump l) sound = IsLaw-directed l.forward _ _ _ _ (IsLaw-lift l.inner.us l.inner.head l.inner.speed
    l.inner.lift _ _ _ _ sound.0 (IsLaw-quad l.inner.inner.cap sound.1))
IsLaw-link (Limit l) sound = IsLaw-capped l.cap _ _ _ _ (IsLaw-quad l.inner.cap sound)
IsLaw-link (LinearLimit l) sound = IsLaw-capped l.cap _ _ _ _ IsLaw-straight
IsLaw-link (LimitOneWay l) sound = IsLaw-directed l.forward _ _ _ _
    (IsLaw-capped l.inner.cap _ _ _ _ (IsLaw-quad l.inner.inner.cap sound))
IsLaw-link (LinearLimitOneWay l) sound = IsLaw-directed l.forward _ _ _ _
    (IsLaw-capped l.inner.cap _ _ _ _ IsLaw-straight)
IsLaw-link (Power l) sound = IsLaw-power l.cap sound
IsLaw-link (PowerOneWay l) sound = IsLaw-directed l.forward _ _ _ _ (IsLaw-power l.inner.cap sound)
IsLaw-link (Bent l) sound = IsLaw-held l.least l.most _ _ _ _ sound.0
    (IsLaw-bent (places l.inner.knots.list) sound.1.ordered)

-- The exact law that a law of the program stands for.
-- Source: EPANET 2.2 User Manual, chapter 3 (the network model).
use Rattle.std.specs.Prelude.{ℤ, pos, Bool, true, false, ◌&&◌, if◌then◌else◌}
use Rattle.hyd_spec.specs.WholeNumbers.{is_same_number}
use Rattle.hyd_spec.specs.DemandsHeadsAndPumpLifts.{lift_of}
use Rattle.hyd_spec.specs.Law.{Law, Shut as ShutLaw, QuadraticLaw, LinearLaw, Lifted, ForwardOnly, ReverseOnly, Capped}
use Rattle.hyd_spec.specs.Law.{PowerLaw, Bent as BentLaw, Held}
use Rattle.hyd_law.specs.KnotsOfStraightLines.{places}
use Rattle.hyd_law.specs.declared.link_law_kinds.LinkLaw.{LinkLaw}
use Rattle.hyd_law.specs.declared.link_law_kinds.LinkLaw.TheVariants.{Shut, Quad, Linear, QuadOneWay, LinearOneWay}
use Rattle.hyd_law.specs.declared.link_law_kinds.LinkLaw.TheVariants.{Pump}
use Rattle.hyd_law.specs.declared.link_law_kinds.LinkLaw.TheVariants.{Limit, LinearLimit, LimitOneWay}
use Rattle.hyd_law.specs.declared.link_law_kinds.LinkLaw.TheVariants.{LinearLimitOneWay, Power, PowerOneWay}
use Rattle.hyd_law.specs.declared.link_law_kinds.LinkLaw.TheVariants.{Bent}

-- the law that passes one way only
abbrev pub one_way_law : Bool → Law → Law
one_way_law true law = ForwardOnly law
one_way_law false law = ReverseOnly law

-- a flow held from the one to the other is nothing: both are 0
abbrev pub is_nothing : ℤ → ℤ → Bool
is_nothing least most = is_same_number least (pos 0) && is_same_number most (pos 0)

-- the law that a link's own law is; straight lines held from 0 to 0 are the law of a closed link
abbrev pub exact_law : LinkLaw → Law
exact_law (Shut l) = ShutLaw
exact_law (Quad l) = QuadraticLaw l.cap
exact_law (Linear l) = LinearLaw
exact_law (QuadOneWay l) = one_way_law l.forward (QuadraticLaw l.inner.cap)
exact_law (LinearOneWay l) = one_way_law l.forward LinearLaw
exact_law (Pump l) = one_way_law l.forward (Lifted (lift_of l.inner.us l.inner.head l.inner.speed)
    (QuadraticLaw l.inner.inner.cap))
exact_law (Limit l) = Capped l.cap (QuadraticLaw l.inner.cap)
exact_law (LinearLimit l) = Capped l.cap LinearLaw
exact_law (LimitOneWay l) = one_way_law l.forward (Capped l.inner.cap (QuadraticLaw l.inner.inner.cap))
exact_law (LinearLimitOneWay l) = one_way_law l.forward (Capped l.inner.cap LinearLaw)
exact_law (Power l) = PowerLaw l.cap
exact_law (PowerOneWay l) = one_way_law l.forward (PowerLaw l.inner.cap)
exact_law (Bent l) = if is_nothing l.least l.most then ShutLaw else Held l.least l.most
    (BentLaw (places l.inner.knots.list))

use Rattle.std.proofs.Common.{w64, SFits, sym, subst, rules}
use Rattle.std.proofs.lemmas.Int.{to_z-of_z}
use Rattle.hyd_spec.specs.DemandsHeadsAndPumpLifts.{lift_of}
use Rattle.hyd_spec.specs.Law.{QuadraticLaw, LinearLaw, Lifted as LiftedLaw, Capped as CappedLaw, Bent as BentLaw}
use Rattle.hyd_spec.specs.Law.{PowerLaw}
use Rattle.hyd_law.specs.KnotsOfStraightLines.{places}
use Rattle.hyd_law.specs.declared.link_law_kinds.LinkLaw.{LinkLaw}
use Rattle.hyd_period_network.specs.ExactLaw.{exact_law}
use Rattle.hyd_laws_at_scale.specs.Scales.{parts_of}
use Rattle.hyd_laws_at_scale.specs.Windows.{IsWindow, IsAnswer}
use Rattle.hyd_laws_at_scale.proofs.ComposedWindows.{held_or_shut}
use Rattle.hyd_laws_at_scale.proofs.link_windows.window_at.Goals as goal

pub returns-in-Shut : goal.returns-in-Shut
returns-in-Shut c =
    let S = parts_of c.args.scale in
    let e = to_z-of_z w64 c.args.d c.ranges.d in
    subst (λ (x : LinkLaw). IsWindow (parts_of c.args.scale) (exact_law x) c.args.d c.shut.result) (sym c.in-Shut.is)
    (c.shut.ensures S c.args.d c.requires.difference)

pub returns-in-Quad : goal.returns-in-Quad
returns-in-Quad c =
    let S = parts_of c.args.scale in
    let e = to_z-of_z w64 c.args.d c.ranges.d in
    subst (λ (x : LinkLaw). IsAnswer (parts_of c.args.scale) (exact_law x) c.args.d c.quadratic.result)
    (sym c.in-Quad.is)
    (rw e at c.quadratic.ensures)

pub returns-in-Linear : goal.returns-in-Linear
returns-in-Linear c =
    let S = parts_of c.args.scale in
    let e = to_z-of_z w64 c.args.d c.ranges.d in
    subst (λ (x : LinkLaw). IsWindow (parts_of c.args.scale) (exact_law x) c.args.d c.linear.result)
    (sym c.in-Linear.is)
    (rw e at (c.linear.ensures S))

pub returns-in-QuadOneWay : goal.returns-in-QuadOneWay
returns-in-QuadOneWay c =
    let S = parts_of c.args.scale in
    let e = to_z-of_z w64 c.args.d c.ranges.d in
    subst (λ (x : LinkLaw). IsAnswer (parts_of c.args.scale) (exact_law x) c.args.d c.one_way.result)
    (sym c.in-QuadOneWay.is)
    (c.one_way.ensures S (QuadraticLaw c.in-QuadOneWay.law.inner.cap) c.args.d
    (rw e at c.quadratic-in-QuadOneWay.ensures))

pub returns-in-LinearOneWay : goal.returns-in-LinearOneWay
returns-in-LinearOneWay c =
    let S = parts_of c.args.scale in
    let e = to_z-of_z w64 c.args.d c.ranges.d in
    subst (λ (x : LinkLaw). IsAnswer (parts_of c.args.scale) (exact_law x) c.args.d c.one_way-in-LinearOneWay.result)
    (sym c.in-LinearOneWay.is)
    (c.one_way-in-LinearOneWay.ensures S LinearLaw c.args.d (rw e at (c.linear-in-LinearOneWay.ensures S)))

pub returns-in-Pump : goal.returns-in-Pump
returns-in-Pump c =
    let S = parts_of c.args.scale in
    let e = to_z-of_z w64 c.args.d c.ranges.d in
    subst (λ (x : LinkLaw). IsAnswer (parts_of c.args.scale) (exact_law x) c.args.d c.one_way-in-Pump.result)
    (sym c.in-Pump.is)
    (c.one_way-in-Pump.ensures S (LiftedLaw (lift_of c.in-Pump.law.inner.us c.in-Pump.law.inner.head
    c.in-Pump.law.inner.speed) (QuadraticLaw c.in-Pump.law.inner.inner.cap)) c.args.d (rw e at c.pumped.ensures))

pub returns-in-Limit : goal.returns-in-Limit
returns-in-Limit c =
    let S = parts_of c.args.scale in
    let e = to_z-of_z w64 c.args.d c.ranges.d in
    let fits : SFits w64 c.in-Limit.law.cap = search rules in
    subst (λ (x : LinkLaw). IsAnswer (parts_of c.args.scale) (exact_law x) c.args.d c.capped.result) (sym c.in-Limit.is)
    (rw (to_z-of_z w64 c.in-Limit.law.cap fits) at
    (c.capped.ensures (QuadraticLaw c.in-Limit.law.inner.cap) c.args.d (rw e at c.quadratic-in-Limit.ensures)))

pub returns-in-LinearLimit : goal.returns-in-LinearLimit
returns-in-LinearLimit c =
    let S = parts_of c.args.scale in
    let e = to_z-of_z w64 c.args.d c.ranges.d in
    let fits : SFits w64 c.in-LinearLimit.law.cap = search rules in
    subst (λ (x : LinkLaw). IsAnswer (parts_of c.args.scale) (exact_law x) c.args.d c.capped-in-LinearLimit.result)
    (sym c.in-LinearLimit.is)
    (rw (to_z-of_z w64 c.in-LinearLimit.law.cap fits) at
    (c.capped-in-LinearLimit.ensures LinearLaw c.args.d (rw e at (c.linear-in-LinearLimit.ensures S))))

pub returns-in-LimitOneWay : goal.returns-in-LimitOneWay
returns-in-LimitOneWay c =
    let S = parts_of c.args.scale in
    let e = to_z-of_z w64 c.args.d c.ranges.d in
    let l = c.in-LimitOneWay.law in
    let fits : SFits w64 c.in-LimitOneWay.law.inner.cap = search rules in
    let inner = rw (to_z-of_z w64 c.in-LimitOneWay.law.inner.cap fits) at (c.capped-in-LimitOneWay.ensures
    (QuadraticLaw c.in-LimitOneWay.law.inner.inner.cap) c.args.d (rw e at c.quadratic-in-LimitOneWay.ensures)) in
    subst (λ (x : LinkLaw). IsAnswer (parts_of c.args.scale) (exact_law x) c.args.d c.one_way-in-LimitOneWay.result)
    (sym c.in-LimitOneWay.is)
    (c.one_way-in-LimitOneWay.ensures S (CappedLaw l.inner.cap (QuadraticLaw l.inner.inner.cap)) c.args.d inner)

pub returns-in-LinearLimitOneWay : goal.returns-in-LinearLimitOneWay
returns-in-LinearLimitOneWay c =
    let S = parts_of c.args.scale in
    let e = to_z-of_z w64 c.args.d c.ranges.d in
    let fits : SFits w64 c.in-LinearLimitOneWay.law.inner.cap = search rules in
    let inner = rw (to_z-of_z w64 c.in-LinearLimitOneWay.law.inner.cap fits) at
    (c.capped-in-LinearLimitOneWay.ensures LinearLaw c.args.d (rw e at (c.linear-in-LinearLimitOneWay.ensures S))) in
    subst (λ (x : LinkLaw). IsAnswer (parts_of c.args.scale) (exact_law x) c.args.d
    c.one_way-in-LinearLimitOneWay.result)
    (sym c.in-LinearLimitOneWay.is)
    (c.one_way-in-LinearLimitOneWay.ensures S (CappedLaw c.in-LinearLimitOneWay.law.inner.cap LinearLaw) c.args.d inner)

pub returns-in-Power : goal.returns-in-Power
returns-in-Power c =
    let e = to_z-of_z w64 c.args.d c.ranges.d in
    subst (λ (x : LinkLaw). IsAnswer (parts_of c.args.scale) (exact_law x) c.args.d c.power.result)
    (sym c.in-Power.is)
    (rw e at c.power.ensures)

pub returns-in-PowerOneWay : goal.returns-in-PowerOneWay
returns-in-PowerOneWay c =
    let S = parts_of c.args.scale in
    let e = to_z-of_z w64 c.args.d c.ranges.d in
    subst (λ (x : LinkLaw). IsAnswer (parts_of c.args.scale) (exact_law x) c.args.d c.one_way-in-PowerOneWay.result)
    (sym c.in-PowerOneWay.is)
    (c.one_way-in-PowerOneWay.ensures S (PowerLaw c.in-PowerOneWay.law.inner.cap) c.args.d
    (rw e at c.power-in-PowerOneWay.ensures))

pub returns-in-Bent : goal.returns-in-Bent
returns-in-Bent c =
    let S = parts_of c.args.scale in
    let e = to_z-of_z w64 c.args.d c.ranges.d in
    subst (λ (x : LinkLaw). IsWindow (parts_of c.args.scale) (exact_law x) c.args.d c.bent.result) (sym c.in-Bent.is)
    (held_or_shut S c.in-Bent.law.least c.in-Bent.law.most (BentLaw (places c.in-Bent.law.inner.knots.list))
    c.args.d c.bent.result (rw e at c.bent.ensures))

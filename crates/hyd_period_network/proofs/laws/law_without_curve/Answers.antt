use Rattle.std.proofs.Common.{◌≡◌, ℤ, Bool, to_z, of_z, w64, subst, arith}
use Rattle.std.proofs.lemmas.Int.{ints}
use Rattle.hyd_spec.specs.ProgramTypes.{Speed, Limit}
use Rattle.hyd_spec.specs.DemandsHeadsAndPumpLifts.{is_us}
use Rattle.hyd_spec.specs.LinkLaw.{own_law}
use Rattle.hyd_period_network.specs.LawsInSettings.{Represents}
use Rattle.hyd_period_network.proofs.LawsStandForExactLaws.{shut_represents}
use Rattle.hyd_period_network.proofs.RangesOfLinkNumbers.{speed_of, flow_of, shutoff_of, closed_is}
use Rattle.hyd_period_network.proofs.laws.law_without_curve.Goals as goal

pub running_law-requires-clause-head : goal.running_law-requires-clause-head
running_law-requires-clause-head c = rw c.is_us.ensures (shutoff_of c.args.project.now.options.unit _ _
    c.args.kind.now c.requires.can.sizes)

pub running_law-requires-clause-speed : goal.running_law-requires-clause-speed
running_law-requires-clause-speed c =
    let s = speed_of c.args.kind.now c.in-Speed.speed (rw c.in-Speed.is at c.requires.can.can) in
    record {
      at_least = omega (arith, ints, s.at_least, s.at_most);
      at_most = omega (arith, ints, s.at_least, s.at_most);
    }

pub returns-in-Open : goal.returns-in-Open
returns-in-Open c = rw c.in-Open.is (c.open_law.ensures _ _)

pub returns-in-Closed : goal.returns-in-Closed
returns-in-Closed c = rw c.in-Closed.is (rw (closed_is _ _ c.args.kind.now) (shut_represents (record {})))

pub returns-in-Speed : goal.returns-in-Speed
returns-in-Speed c =
    let s = speed_of c.args.kind.now c.in-Speed.speed (rw c.in-Speed.is at c.requires.can.can) in
    let same : to_z w64 (of_z w64 c.in-Speed.speed) ≡ c.in-Speed.speed = omega (arith, ints, s.at_least, s.at_most) in
    rw c.in-Speed.is (subst (λ (us : Bool). Represents c.running_law.result
    (own_law us c.args.project.now.bends.list c.args.kind.now (Speed c.in-Speed.speed))) c.is_us.ensures
    (subst (λ (z : ℤ). Represents c.running_law.result (own_law c.is_us.result c.args.project.now.bends.list
    c.args.kind.now (Speed z))) same (c.running_law.ensures c.args.project.now.bends.list)))

pub returns-in-Throttle : goal.returns-in-Throttle
returns-in-Throttle c = rw c.in-Throttle.is (c.throttled_law.ensures _ _ c.in-Throttle.nano)

pub returns-in-Limit : goal.returns-in-Limit
returns-in-Limit c =
    let s = flow_of c.args.kind.now c.in-Limit.nano c.in-Limit.ticks (rw c.in-Limit.is at c.requires.can.can) in
    let same : to_z w64 (of_z w64 c.in-Limit.ticks) ≡ c.in-Limit.ticks = omega (arith, ints, s.at_least, s.at_most) in
    rw c.in-Limit.is (subst (λ (z : ℤ). Represents c.limited_law.result
    (own_law (is_us c.args.project.now) c.args.project.now.bends.list c.args.kind.now (Limit c.in-Limit.nano z)))
    same (c.limited_law.ensures (is_us c.args.project.now) c.args.project.now.bends.list c.in-Limit.nano))

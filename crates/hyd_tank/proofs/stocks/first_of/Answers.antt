use Rattle.std.proofs.Common.{ℤ, List, sym, subst, w64}
use Rattle.std.proofs.lemmas.Int.{to_z-of_z}
use Rattle.hyd_spec.specs.ProgramTypes.{VolumePoint}
use Rattle.hyd_spec.specs.Tank.{Walls, Curve}
use Rattle.hyd_spec_certificates.specs.SpansAsIntervals.{flows_of}
use Rattle.hyd_spec_certificates.specs.FirstSeconds.{IsEarliestSecond, IsLatestSecond}
use Rattle.hyd_tank.specs.StockIntervals.{cylinder, stocks_at, stocks_of}
use Rattle.hyd_tank.proofs.TanksOfSoundNetworks.{walls_without, walls_with, earliest_without, latest_without}
use Rattle.hyd_tank.proofs.stocks.first_of.Goals as goal

pub returns-in-None-clause-earliest : goal.returns-in-None-clause-earliest
returns-in-None-clause-earliest c =
    let tank = c.args.tank.now in
    let flow = flows_of c.args.inflow in
    let second = c.first_second.result.0 in
    subst (λ (w : Walls). IsEarliestSecond w tank (stocks_of c.args.stock) flow c.args.target c.args.rising c.args.cap
    second) (sym (walls_without c.args.project.now tank c.in-None.is))
    (earliest_without tank c.args.stock flow c.args.target c.args.cap second c.args.rising
    (subst (λ (z : ℤ). IsEarliestSecond (cylinder tank) tank (stocks_at c.args.stock.level) flow z c.args.rising
    c.args.cap second) (to_z-of_z w64 c.args.target c.ranges.target) c.first_second.ensures.earliest))

pub returns-in-Some-clause-earliest : goal.returns-in-Some-clause-earliest
returns-in-Some-clause-earliest c =
    let tank = c.args.tank.now in
    let flow = flows_of c.args.inflow in
    let second = c.first_from.result.0 in
    subst (λ (w : Walls). IsEarliestSecond w tank (stocks_of c.args.stock) flow c.args.target c.args.rising c.args.cap
    second) (sym (walls_with c.args.project.now tank c.in-Some.shape c.in-Some.is))
    (subst (λ (ps : List VolumePoint). IsEarliestSecond (Curve ps) tank (stocks_of c.args.stock) flow c.args.target
    c.args.rising c.args.cap second) c.points_of.ensures
    (subst (λ (z : ℤ). IsEarliestSecond (Curve c.points_of.result.now) tank (stocks_of c.args.stock) flow z
    c.args.rising c.args.cap second) (to_z-of_z w64 c.args.target c.ranges.target) c.first_from.ensures.earliest))

pub returns-in-None-clause-latest : goal.returns-in-None-clause-latest
returns-in-None-clause-latest c =
    let tank = c.args.tank.now in
    let flow = flows_of c.args.inflow in
    let second = c.first_second.result.1 in
    subst (λ (w : Walls). IsLatestSecond w tank (stocks_of c.args.stock) flow c.args.target c.args.rising c.args.cap
    second) (sym (walls_without c.args.project.now tank c.in-None.is))
    (latest_without tank c.args.stock flow c.args.target c.args.cap second c.args.rising
    (subst (λ (z : ℤ). IsLatestSecond (cylinder tank) tank (stocks_at c.args.stock.level) flow z c.args.rising
    c.args.cap second) (to_z-of_z w64 c.args.target c.ranges.target) c.first_second.ensures.latest))

pub returns-in-Some-clause-latest : goal.returns-in-Some-clause-latest
returns-in-Some-clause-latest c =
    let tank = c.args.tank.now in
    let flow = flows_of c.args.inflow in
    let second = c.first_from.result.1 in
    subst (λ (w : Walls). IsLatestSecond w tank (stocks_of c.args.stock) flow c.args.target c.args.rising c.args.cap
    second) (sym (walls_with c.args.project.now tank c.in-Some.shape c.in-Some.is))
    (subst (λ (ps : List VolumePoint). IsLatestSecond (Curve ps) tank (stocks_of c.args.stock) flow c.args.target
    c.args.rising c.args.cap second) c.points_of.ensures
    (subst (λ (z : ℤ). IsLatestSecond (Curve c.points_of.result.now) tank (stocks_of c.args.stock) flow z
    c.args.rising c.args.cap second) (to_z-of_z w64 c.args.target c.ranges.target) c.first_from.ensures.latest))

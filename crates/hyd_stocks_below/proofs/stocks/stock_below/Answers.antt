use Rattle.std.proofs.Common.{◌≡◌, ◌∙◌, ℤ, pos, sym, ap, subst, to_z, of_z}
use Rattle.std.specs.Int.{w128}
use Rattle.std.proofs.lemmas.Int.{to_z-of_z}
use Rattle.hyd_num.specs.Rational.{floor}
use Rattle.hyd_spec.specs.ProgramTypes.{Tank}
use Rattle.hyd_spec.specs.Tank.{Walls, Curve, Stock, walls_of, shape_points, carried_level}
use Rattle.hyd_spec_witnesses.specs.MiddleCandidate.{halves, stock_below}
use Rattle.hyd_stocks_at_scale.specs.Motions.{stock_of}
use Rattle.hyd_tank.specs.StockIntervals.{cylinder}
use Rattle.hyd_tank.proofs.TanksOfSoundNetworks.{of_each, walls_without, walls_with}
use Rattle.hyd_stocks_below.proofs.stocks.stock_below.Goals as goal

pub returns-in-None-clause-value : goal.returns-in-None-clause-value
returns-in-None-clause-value c = λ each at.
    let project = c.args.project.now in
    let found = c.tank_at.result in
    let stock = stock_of c.args.stock in
    let r = c.level_below.result in
    let kept = to_z-of_z w128 r (record { sfits = c.level_below.type_inv }) in
    let kept-flow = to_z-of_z w128 c.args.inflow c.ranges.inflow in
    let walls = walls_without project found c.in-None.is in
    let read : r ≡ floor (carried_level halves (walls_of project found) found stock c.args.inflow c.args.seconds) =
    rw kept-flow at (c.level_below.ensures.value found c.tank_at.ensures) in
    let level : to_z w128 (of_z w128 r)
    ≡ floor (carried_level halves (cylinder found) found stock c.args.inflow c.args.seconds) = kept ∙ (read
    ∙ ap (λ (w : Walls). floor (carried_level halves w found stock c.args.inflow c.args.seconds)) walls) in
    let whole : (let s : Stock = record { level = to_z w128 (of_z w128 r); volume = pos 0 } in s)
    ≡ stock_below (cylinder found) found stock c.args.inflow c.args.seconds =
    ap (λ (x : ℤ). (let s : Stock = record { level = x; volume = pos 0 } in s)) level in
    of_each (λ (t : Tank). (let s : Stock = record { level = to_z w128 (of_z w128 r); volume = pos 0 } in s)
    ≡ stock_below (walls_of project t) t stock c.args.inflow c.args.seconds) project.tanks.list c.args.tank found each
    c.tank_at.ensures at
    (subst (λ (w : Walls). (let s : Stock = record { level = to_z w128 (of_z w128 r); volume = pos 0 } in s)
    ≡ stock_below w found stock c.args.inflow c.args.seconds) (sym walls) whole)

pub returns-in-Some-clause-value : goal.returns-in-Some-clause-value
returns-in-Some-clause-value c = λ each at.
    let project = c.args.project.now in
    let found = c.tank_at.result in
    let stock = stock_of c.args.stock in
    let points = shape_points project c.in-Some.field-0 in
    let kept-flow = to_z-of_z w128 c.args.inflow c.ranges.inflow in
    let walls = walls_with project found c.in-Some.field-0 c.in-Some.is in
    let below : stock_of c.below_on_curve.result
    ≡ stock_below (Curve points) found stock c.args.inflow c.args.seconds =
    rw kept-flow at (c.below_on_curve.ensures.value found points c.tank_at.ensures walls) in
    of_each (λ (t : Tank). stock_of c.below_on_curve.result
    ≡ stock_below (walls_of project t) t stock c.args.inflow c.args.seconds) project.tanks.list c.args.tank found each
    c.tank_at.ensures at
    (subst (λ (w : Walls). stock_of c.below_on_curve.result ≡ stock_below w found stock c.args.inflow c.args.seconds)
    (sym walls) below)

use Rattle.std.proofs.Common.{◌≤ℤ◌, sym, subst}
use Rattle.hyd_spec.specs.Tank.{level_bounds, carried_level}
use Rattle.hyd_spec_certificates.specs.SpansAsIntervals.{flows_of}
use Rattle.hyd_spec_certificates.specs.Interval.{Interval}
use Rattle.hyd_spec_certificates.specs.Stocks.{carried_levels}
use Rattle.hyd_theorems_on_definitions.specs.LyingInIntervals.{LiesAround, IsInside, IsWithin}
use Rattle.hyd_theorems_on_definitions.proofs.StocksInIntervals.{carried_lies, carried_inside, carried_within}
use Rattle.hyd_theorems_on_definitions.proofs.StocksInIntervals.{carried_ordered}
use Rattle.hyd_tank.specs.StockIntervals.{cylinder, stocks_at, with_levels, level_stock}
use Rattle.hyd_tank.proofs.TanksOfSoundNetworks.{cylinder_vessel}
use Rattle.hyd_tank.proofs.OrderBoundsAndNesting.{level_lies, levels_inside, level_there}
use Rattle.hyd_tank.proofs.cylinders.level_at.Goals as goal

pub returns-clause-bounded : goal.returns-clause-bounded
returns-clause-bounded c =
    let tank = c.args.tank.now in
    subst (IsWithin (level_bounds tank)) (sym c.levels_after.ensures)
    (carried_within (cylinder tank) tank (stocks_at c.args.level) (flows_of c.args.inflow) c.args.seconds
    (cylinder_vessel tank c.requires.tank))

pub returns-clause-ordered : goal.returns-clause-ordered
returns-clause-ordered c = λ order.
    let tank = c.args.tank.now in
    subst (λ (x : Interval). x.lo ≤ℤ x.hi) (sym c.levels_after.ensures)
    (carried_ordered (cylinder tank) tank (cylinder_vessel tank c.requires.tank) (stocks_at c.args.level) (flows_of
    c.args.inflow) c.args.seconds (level_there c.args.level order) c.args.inflow.ordered)

pub returns-clause-holds : goal.returns-clause-holds
returns-clause-holds c = λ S z q some lies flow.
    let tank = c.args.tank.now in
    subst (λ (x : Interval). LiesAround S x (carried_level S (cylinder tank) tank (level_stock z) q c.args.seconds))
    (sym c.levels_after.ensures)
    (carried_lies S (cylinder tank) (stocks_at c.args.level) (flows_of c.args.inflow) c.args.seconds (level_stock z)
    q (level_lies S c.args.level z lies) flow tank some (cylinder_vessel tank c.requires.tank))

pub returns-clause-nests : goal.returns-clause-nests
returns-clause-nests c = λ wider more inside flow.
    let tank = c.args.tank.now in
    subst (λ (x : Interval). IsInside x (carried_levels (cylinder tank) tank (with_levels wider) more c.args.seconds))
    (sym c.levels_after.ensures)
    (carried_inside (cylinder tank) tank (cylinder_vessel tank c.requires.tank) (stocks_at c.args.level) (with_levels
    wider) (flows_of c.args.inflow) more c.args.seconds
    (levels_inside c.args.level wider inside) flow)

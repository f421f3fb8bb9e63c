use Rattle.std.proofs.Common.{◌∙◌, to_z, of_z}
use Rattle.std.specs.Int.{w128}
use Rattle.std.proofs.lemmas.Int.{to_z-of_z}
use Rattle.hyd_spec.specs.Tank.{tank_inflow}
use Rattle.hyd_spec.specs.PeriodLength.{stock_at_start}
use Rattle.hyd_lemmas.proofs.ListsOptionsAndResults.{item_there}
use Rattle.hyd_laws_at_scale.specs.Scales.{parts_of}
use Rattle.hyd_laws_at_scale.proofs.Scales.{power_small}
use Rattle.hyd_stocks_at_scale.specs.Motions.{stock_of}
use Rattle.hyd_length_at_scale.specs.MetPeriods.{told}
use Rattle.hyd_length_at_scale.proofs.StocksOfMetPeriods.{carried_so}
use Rattle.hyd_length_at_scale.proofs.CarriedLevels.{exactly_carried, small_carried}
use Rattle.hyd_length_at_scale.proofs.carried.carried_of.Goals as goal

pub returns-clause-exact : goal.returns-clause-exact
returns-clause-exact c = λ each at.
    let period = c.args.period.now in
    let project = period.project.now in
    let start = told period in
    let k = c.args.tank in
    let S = parts_of period.scale in
    let inflow = c.inflow_of-inflow.result in
    let flow = to_z-of_z w128 inflow (record { sfits = c.inflow_of-inflow.type_inv })
    ∙ c.inflow_of-inflow.ensures.value in
    exactly_carried project c.requires.period.sound S k (power_small period.scale.power period.scale.small) each at
    (stock_at_start start k) (tank_inflow project k start.assignment.flows) c.args.seconds c.carried_level.result
    (carried_so project S start k each (stock_of c.stock_at_start-stock.result) (to_z w128 (of_z w128 inflow))
    c.stock_at_start-stock.ensures.value flow c.args.seconds c.carried_level.result (c.carried_level.ensures each at))

pub returns-clause-small : goal.returns-clause-small
returns-clause-small c =
    let period = c.args.period.now in
    let project = period.project.now in
    let start = told period in
    let k = c.args.tank in
    let S = parts_of period.scale in
    let inflow = c.inflow_of-inflow.result in
    let flow = to_z-of_z w128 inflow (record { sfits = c.inflow_of-inflow.type_inv })
    ∙ c.inflow_of-inflow.ensures.value in
    let item = item_there project.tanks.list k c.requires.there in
    small_carried project c.requires.period.sound S k (power_small period.scale.power period.scale.small) item.0 item.1
    (stock_at_start start k) (tank_inflow project k start.assignment.flows) c.args.seconds c.carried_level.result
    (carried_so project S start k item.0 (stock_of c.stock_at_start-stock.result) (to_z w128 (of_z w128 inflow))
    c.stock_at_start-stock.ensures.value flow c.args.seconds c.carried_level.result
    (c.carried_level.ensures item.0 item.1))

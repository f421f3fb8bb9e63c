use Rattle.std.proofs.Common.{◌∙◌, to_z, of_z}
use Rattle.std.specs.Int.{w64, w128}
use Rattle.std.proofs.lemmas.Int.{to_z-of_z}
use Rattle.hyd_laws_at_scale.specs.Scales.{parts_of}
use Rattle.hyd_stocks_at_scale.specs.Motions.{stock_of}
use Rattle.hyd_length_at_scale.specs.MetPeriods.{told}
use Rattle.hyd_length_at_scale.proofs.StocksOfMetPeriods.{reached_first}
use Rattle.hyd_length_at_scale.proofs.reached_levels.first_reached.Goals as goal

pub returns : goal.returns
returns c = λ each at.
    let period = c.args.period.now in
    let inflow = c.inflow_of-inflow.result in
    let flow = to_z-of_z w128 inflow (record { sfits = c.inflow_of-inflow.type_inv })
    ∙ c.inflow_of-inflow.ensures.value in
    reached_first period.project.now (parts_of period.scale) (told period) c.args.tank each
    (stock_of c.stock_at_start-stock.result) (to_z w128 (of_z w128 inflow)) c.stock_at_start-stock.ensures.value flow
    c.args.rising (to_z w64 (of_z w64 c.args.level)) c.args.level c.args.cap c.first_second.result
    (to_z-of_z w64 c.args.level c.ranges.level) (c.first_second.ensures each at)

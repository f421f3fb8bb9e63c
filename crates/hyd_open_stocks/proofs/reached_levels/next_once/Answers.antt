use Rattle.std.proofs.Common.{◌∙◌, pos}
use Rattle.hyd_spec.specs.Scale.{missed_stock_ticks}
use Rattle.hyd_spec.specs.Tank.{walls_of}
use Rattle.hyd_spec_certificates.specs.SpansAsIntervals.{flows_of}
use Rattle.hyd_spec_certificates.specs.Stocks.{contents_after}
use Rattle.hyd_theorems_on_definitions.proofs.SoundTankLemmas.{vessels}
use Rattle.hyd_tank.specs.StockIntervals.{stocks_of}
use Rattle.hyd_open_stocks.specs.EndsOfContents.{contents_of}
use Rattle.hyd_open_stocks.proofs.SameEnds.{contents_apart}
use Rattle.hyd_open_stocks.proofs.GoalsMet.{next_met, next_with}
use Rattle.hyd_open_stocks.proofs.reached_levels.next_once.Goals as goal

pub returns-clause-ends : goal.returns-clause-ends
returns-clause-ends c = λ each rising target at is.
    let project = c.args.project.now in
    let walls = walls_of project each in
    let flow = flows_of c.no_flow.result in
    let stocks = stocks_of c.args.goal.stock in
    let are = c.of_stock.ensures.value walls each
    (contents_after (pos missed_stock_ticks) walls each stocks flow 0) (c.requires.curve each at)
    (c.next_stock-met.ensures.value each at ∙ next_with walls each stocks flow 0) in
    next_met walls each (vessels project c.requires.sound c.args.tank each at)
    (contents_apart project c.requires.sound c.args.tank each at) c.args.goal (pos missed_stock_ticks) rising target
    flow (contents_of c.of_stock.result) c.no_flow.ensures.lo c.no_flow.ensures.hi is are.contents_are

pub returns-clause-levels : goal.returns-clause-levels
returns-clause-levels c = λ each at.
    let walls = walls_of c.args.project.now each in
    let flow = flows_of c.no_flow.result in
    let stocks = stocks_of c.args.goal.stock in
    (c.of_stock.ensures.value walls each (contents_after (pos missed_stock_ticks) walls each stocks flow 0)
    (c.requires.curve each at) (c.next_stock-met.ensures.value each at ∙ next_with walls each stocks flow 0)).levels_go

pub returns-clause-within : goal.returns-clause-within
returns-clause-within c = λ each at.
    c.of_stock.ensures.within (walls_of c.args.project.now each) each (c.requires.curve each at)
    (c.next_stock-met.ensures.held each at)

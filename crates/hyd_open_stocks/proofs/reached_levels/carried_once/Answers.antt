use Rattle.std.proofs.Common.{◌∙◌, ap}
use Rattle.hyd_spec.specs.Tank.{walls_of}
use Rattle.hyd_spec_certificates.specs.SpansAsIntervals.{flows_of}
use Rattle.hyd_spec_certificates.specs.Stocks.{Stocks}
use Rattle.hyd_theorems_on_definitions.proofs.SoundTankLemmas.{vessels}
use Rattle.hyd_tank.specs.StockIntervals.{stocks_of}
use Rattle.hyd_tank.proofs.TanksOfSoundNetworks.{carried_is}
use Rattle.hyd_open_stocks.specs.EndsOfContents.{contents_of}
use Rattle.hyd_open_stocks.proofs.SameEnds.{contents_apart}
use Rattle.hyd_open_stocks.proofs.GoalsMet.{carried_met}
use Rattle.hyd_open_stocks.proofs.reached_levels.carried_once.Goals as goal

pub returns-clause-ends : goal.returns-clause-ends
returns-clause-ends c = λ each rising target at is.
    let project = c.args.project.now in
    let walls = walls_of project each in
    let flow = flows_of c.no_flow.result in
    carried_met walls each (vessels project c.requires.sound c.args.tank each at)
    (contents_apart project c.requires.sound c.args.tank each at) c.args.goal rising target flow
    (contents_of c.of_levels.result) c.no_flow.ensures.lo c.no_flow.ensures.hi is
    (c.of_levels.ensures.contents
    ∙ ap (λ (s : Stocks). s.level) (c.stock_at.ensures.value each at)
    ∙ carried_is walls each (stocks_of c.args.goal.stock) flow 0)

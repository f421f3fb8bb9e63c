use Rattle.hyd_spec_certificates.specs.Decided.{tank_watches}
use Rattle.hyd_period_facts.proofs.WatchedLevelsSoFar.{earliest_is, latest_is}
use Rattle.hyd_period_facts.proofs.all_watched_levels.level_ends.Goals as goal

pub returns-clause-earliest : goal.returns-clause-earliest
returns-clause-earliest c = λ grid standing row started clock.
    earliest_is c.args.project.now c.args.facts.now c.args.cap c.with_controls.result
    (c.with_controls.ensures
    (tank_watches 0 c.args.project.now.tanks.list c.args.facts.now.tanks.list) c.bound_ends-bounds.ensures)
    grid standing row started clock

pub returns-clause-latest : goal.returns-clause-latest
returns-clause-latest c = λ grid standing row started clock.
    latest_is c.args.project.now c.args.facts.now c.args.cap c.with_controls.result
    (c.with_controls.ensures
    (tank_watches 0 c.args.project.now.tanks.list c.args.facts.now.tanks.list) c.bound_ends-bounds.ensures)
    grid standing row started clock

pub returns-clause-within : goal.returns-clause-within
returns-clause-within c =
    (c.with_controls.ensures
    (tank_watches 0 c.args.project.now.tanks.list c.args.facts.now.tanks.list) c.bound_ends-bounds.ensures).within

pub returns-clause-some : goal.returns-clause-some
returns-clause-some c =
    (c.with_controls.ensures
    (tank_watches 0 c.args.project.now.tanks.list c.args.facts.now.tanks.list) c.bound_ends-bounds.ensures).some

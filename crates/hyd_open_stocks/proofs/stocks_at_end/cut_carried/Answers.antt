use Rattle.std.proofs.Common.{◌∙◌, pos, ap}
use Rattle.hyd_spec.specs.Tank.{walls_of, level_bounds}
use Rattle.hyd_spec_certificates.specs.Interval.{Interval}
use Rattle.hyd_spec_certificates.specs.SpansAsIntervals.{flows_of}
use Rattle.hyd_spec_open_ends.specs.StocksOverLengths.{level_ends}
use Rattle.hyd_open_stocks.specs.EndsOfContents.{contents_of, arrival_of, cut_to}
use Rattle.hyd_open_stocks.proofs.GoalsMet.{cut_is}
use Rattle.hyd_lemmas.proofs.ListsOptionsAndResults.{item_there}
use Rattle.hyd_open_stocks.proofs.stocks_at_end.cut_carried.Goals as goal

pub goal_at-goal-requires-clause-reach : goal.goal_at-goal-requires-clause-reach
goal_at-goal-requires-clause-reach c = λ each at. (flows_of c.args.inflow, c.requires.reach each at)

pub carried_once-once-requires-clause-held : goal.carried_once-once-requires-clause-held
carried_once-once-requires-clause-held c = λ each at. (c.goal_at-goal.ensures each at).within

pub carried_later-later-requires-clause-held : goal.carried_later-later-requires-clause-held
carried_later-later-requires-clause-held c = λ each at. (c.goal_at-goal.ensures each at).within

pub carried_later-later-requires-clause-beyond : goal.carried_later-later-requires-clause-beyond
carried_later-later-requires-clause-beyond c =
    let there = item_there c.args.project.now.tanks.list c.args.tank c.requires.tank in
    (c.goal_at-goal.ensures there.0 there.1).not_short

pub returns-clause-value : goal.returns-clause-value
returns-clause-value c = λ each at.
    let walls = walls_of c.args.project.now each in
    let arrival = c.args.arrival in
    let goal_is = c.goal_at-goal.ensures each at in
    c.to_levels.ensures ∙ c.cut.ensures.contents
    ∙ ap (λ (x : Interval). cut_to (arrival_of arrival) (contents_of c.carried_once-once.result)
    (contents_of c.carried_later-later.result) x) c.of_levels.ensures.contents
    ∙ cut_is (level_ends (pos 0) walls each) walls each (flows_of c.args.inflow) arrival.target arrival.rising
    arrival.not_before (contents_of c.carried_once-once.result) (contents_of c.carried_later-later.result) _
    (c.carried_once-once.ensures.ends each arrival.rising arrival.target at goal_is)
    (c.carried_later-later.ensures.ends each arrival.rising arrival.target at (c.requires.reach each at) goal_is)

pub returns-clause-within : goal.returns-clause-within
returns-clause-within c = λ each at lie.
    let bounds = level_bounds each in
    let are = c.cut.ensures.within bounds bounds (c.of_levels.ensures.within bounds lie)
    (c.carried_once-once.ensures.within each at) (c.carried_later-later.ensures.within each at) in
    rw c.to_levels.ensures are.contents_lie

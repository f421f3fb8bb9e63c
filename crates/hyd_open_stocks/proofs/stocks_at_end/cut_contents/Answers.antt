use Rattle.std.proofs.Common.{◌∙◌, pos}
use Rattle.hyd_spec.specs.Scale.{missed_stock_ticks}
use Rattle.hyd_spec.specs.Tank.{walls_of, content_bounds, level_bounds}
use Rattle.hyd_spec_certificates.specs.SpansAsIntervals.{flows_of}
use Rattle.hyd_spec_open_ends.specs.StocksOverLengths.{content_ends}
use Rattle.hyd_lemmas.proofs.ListsOptionsAndResults.{item_there}
use Rattle.hyd_open_stocks.specs.EndsOfContents.{contents_of, lower_with, upper_with}
use Rattle.hyd_open_stocks.proofs.GoalsMet.{cut_is}
use Rattle.hyd_open_stocks.proofs.stocks_at_end.cut_contents.Goals as goal

pub goal_at-goal-requires-clause-reach : goal.goal_at-goal-requires-clause-reach
goal_at-goal-requires-clause-reach c = λ each at. (flows_of c.args.inflow, c.requires.reach each at)

pub next_once-once-requires-clause-held : goal.next_once-once-requires-clause-held
next_once-once-requires-clause-held c = λ each at. (c.goal_at-goal.ensures each at).within

pub next_later-later-requires-clause-held : goal.next_later-later-requires-clause-held
next_later-later-requires-clause-held c = λ each at. (c.goal_at-goal.ensures each at).within

pub next_later-later-requires-clause-beyond : goal.next_later-later-requires-clause-beyond
next_later-later-requires-clause-beyond c =
    let there = item_there c.args.project.now.tanks.list c.args.tank c.requires.tank in
    (c.goal_at-goal.ensures there.0 there.1).not_short

pub returns-clause-value : goal.returns-clause-value
returns-clause-value c = λ each at.
    let walls = walls_of c.args.project.now each in
    let arrival = c.args.arrival in
    let goal_is = c.goal_at-goal.ensures each at in
    c.cut.ensures.contents
    ∙ cut_is (content_ends (pos missed_stock_ticks) walls each) walls each (flows_of c.args.inflow) arrival.target
    arrival.rising arrival.not_before (contents_of c.next_once-once.result) (contents_of c.next_later-later.result)
    (contents_of c.args.contents)
    (c.next_once-once.ensures.ends each arrival.rising arrival.target at goal_is)
    (c.next_later-later.ensures.ends each arrival.rising arrival.target at (c.requires.reach each at) goal_is)

pub returns-clause-levels : goal.returns-clause-levels
returns-clause-levels c = λ each at go.
    let walls = walls_of c.args.project.now each in
    c.cut.ensures.levels (lower_with walls each) (upper_with walls each) go (c.next_once-once.ensures.levels each at)
    (c.next_later-later.ensures.levels each at)

pub returns-clause-within : goal.returns-clause-within
returns-clause-within c = λ each at lie.
    let walls = walls_of c.args.project.now each in
    c.cut.ensures.within (content_bounds walls each) (level_bounds each) lie (c.next_once-once.ensures.within each at)
    (c.next_later-later.ensures.within each at)

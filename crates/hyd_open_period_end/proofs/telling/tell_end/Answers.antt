use Rattle.std.proofs.Common.{◌∙◌}
use Rattle.hyd_open_period_end.proofs.telling.tell_end.Goals as goal

pub returns-clause-known : goal.returns-clause-known
returns-clause-known c = λ none grid standing found started least most.
    let lists = c.part_events.ensures.known none in
    (lists.0 ∙ c.put_events_left.ensures.events grid standing found started least most, lists.1)

pub returns-clause-open : goal.returns-clause-open
returns-clause-open c = λ some grid standing found started least most.
    let lists = c.part_events.ensures.open some in
    (lists.0, lists.1 ∙ c.put_events_left.ensures.events grid standing found started least most)

use Rattle.hyd_open_ends.proofs.EndsBySeconds.{at_instant, at_watched, at_wide}
use Rattle.hyd_open_ends.proofs.without_rules.without_rules.Goals as goal

pub returns-then-seconds-clause-ends : goal.returns-then-seconds-clause-ends
returns-then-seconds-clause-ends c = λ project grid standing row last are none.
    at_instant project grid standing row c.args.late c.args.slack c.args.seconds last are c.if-seconds.true none

pub returns-then-is_narrow-clause-ends : goal.returns-then-is_narrow-clause-ends
returns-then-is_narrow-clause-ends c = λ project grid standing row last are none.
    at_watched project grid standing row c.args.late c.args.slack c.args.seconds last are
    (c.is_narrow.ensures.0 c.if-is_narrow.true) none

pub returns-clause-open : goal.returns-clause-open
returns-clause-open c = λ project grid standing row last are none.
    let wide = c.if-is_narrow.false in
    at_wide project grid standing row c.args.late c.args.slack c.args.seconds last are c.last_end.result
    (λ narrow. let yes = c.is_narrow.ensures.1 narrow in absurd (cc))
    c.if-seconds.false c.last_end.ensures none

use Rattle.hyd_open_period_end.proofs.following.follow.Goals as goal

pub returns-in-Err-clause-open : goal.returns-in-Err-clause-open
returns-in-Err-clause-open c =
    c.open_there.ensures c.args.project.now c.follow_over.new.next.levels.list c.in-Err.ensures.open

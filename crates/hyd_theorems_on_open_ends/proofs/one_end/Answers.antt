use Rattle.hyd_theorems_on_open_ends.proofs.OneOpenEnd.{one_way, one_open, not_both}
use Rattle.hyd_theorems_on_open_ends.proofs.one_end.Goals as goal

pub returns-clause-ways : goal.returns-clause-ways
returns-clause-ways c = one_way

pub returns-clause-opens : goal.returns-clause-opens
returns-clause-opens c = one_open

pub returns-clause-not_both : goal.returns-clause-not_both
returns-clause-not_both c = not_both

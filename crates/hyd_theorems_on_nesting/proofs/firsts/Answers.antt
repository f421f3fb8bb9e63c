use Rattle.hyd_spec_certificates.specs.Stocks.{may_reach, must_reach}
use Rattle.hyd_theorems_on_nesting.proofs.EndsByWatchedLevels.{none_watched, one_watched, one_more, end_is}
use Rattle.hyd_theorems_on_nesting.proofs.firsts.Goals as goal

pub returns-clause-none : goal.returns-clause-none
returns-clause-none c = none_watched

pub returns-clause-one : goal.returns-clause-one
returns-clause-one c = one_watched

pub returns-clause-more : goal.returns-clause-more
returns-clause-more c = one_more

pub returns-clause-earliest : goal.returns-clause-earliest
returns-clause-earliest c = end_is may_reach

pub returns-clause-latest : goal.returns-clause-latest
returns-clause-latest c = end_is must_reach

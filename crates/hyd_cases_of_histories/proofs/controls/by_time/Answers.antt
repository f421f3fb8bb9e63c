use Rattle.std.proofs.Common.{arith, lit<}
use Rattle.hyd_cases_of_histories.proofs.TimedPeriods.{instants, time_ends, first_lasts}
use Rattle.hyd_cases_of_histories.proofs.controls.by_time.Goals as goal

pub returns-clause-ends : goal.returns-clause-ends
returns-clause-ends c = time_ends 999 (lit< tt)

pub returns-clause-not_at_start : goal.returns-clause-not_at_start
returns-clause-not_at_start c ends = let later = (instants 1000 1000 ends).0 in omega (arith, later)

pub returns-clause-lasts : goal.returns-clause-lasts
returns-clause-lasts c = first_lasts

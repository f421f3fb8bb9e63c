use Rattle.std.proofs.Common.{arith, lit<, refl}
use Rattle.hyd_spec.specs.PeriodLength.{control_clock}
use Rattle.hyd_cases_of_histories.specs.Timed.{opening}
use Rattle.hyd_cases_of_histories.proofs.TimedPeriods.{instants, clock_ends, second_lasts}
use Rattle.hyd_cases_of_histories.proofs.controls.by_clock.Goals as goal

pub returns-clause-ends : goal.returns-clause-ends
returns-clause-ends c = clock_ends 1199 (lit< tt)

pub returns-clause-next_day : goal.returns-clause-next_day
returns-clause-next_day c = control_clock opening 7200 (1, lit< tt, refl) refl refl (lit< tt)

pub returns-clause-not_at_start : goal.returns-clause-not_at_start
returns-clause-not_at_start c ends = let later = (instants 1200 1200 ends).0 in omega (arith, later)

pub returns-clause-lasts : goal.returns-clause-lasts
returns-clause-lasts c = second_lasts

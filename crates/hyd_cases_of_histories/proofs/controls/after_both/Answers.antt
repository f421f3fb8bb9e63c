use Rattle.hyd_cases_of_histories.proofs.TimedPeriods.{from_opened, third_lasts}
use Rattle.hyd_cases_of_histories.proofs.controls.after_both.Goals as goal

pub returns-clause-no_sooner : goal.returns-clause-no_sooner
returns-clause-no_sooner c = from_opened

pub returns-clause-lasts : goal.returns-clause-lasts
returns-clause-lasts c = third_lasts

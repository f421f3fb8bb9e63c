use Rattle.hyd_theorems_on_open_spreads.proofs.OpenRunsAlone.{open-standing-alone, openly-alone, openly-over}
use Rattle.hyd_theorems_on_open_spreads.proofs.OpenRunsAlone.{run-over, run-alone}
use Rattle.hyd_theorems_on_open_spreads.proofs.without_spread.Goals as goal

pub returns-clause-start : goal.returns-clause-start
returns-clause-start c = open-standing-alone

pub returns-clause-records : goal.returns-clause-records
returns-clause-records c = λ project sound standing grid found next. (
  openly-alone project sound standing grid found next,
  openly-over project sound standing grid found next,
)

pub returns-clause-runs : goal.returns-clause-runs
returns-clause-runs c = λ project sound slack founds last. (
  run-over project sound slack founds last,
  run-alone project sound slack founds last,
)

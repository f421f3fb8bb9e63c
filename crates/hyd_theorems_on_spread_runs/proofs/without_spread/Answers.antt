use Rattle.hyd_theorems_on_spread_runs.proofs.RunsAlone.{start-alone, standing-alone, valid-alone, valid-over}
use Rattle.hyd_theorems_on_spread_runs.proofs.without_spread.Goals as goal

pub returns-clause-start : goal.returns-clause-start
returns-clause-start c = λ project. (start-alone project, standing-alone project)

pub returns-clause-records : goal.returns-clause-records
returns-clause-records c = λ project sound standing grid row next.
    (valid-alone project sound standing grid row next, valid-over project sound standing grid row next)

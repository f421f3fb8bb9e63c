use Rattle.hyd_theorems_on_spread_promises.proofs.OneNetwork.{own_grid, alike}
use Rattle.hyd_theorems_on_spread_promises.proofs.ReportedRunsAlone.{founds_on_both_sides, reports_on_both_sides}
use Rattle.hyd_theorems_on_spread_promises.proofs.one_network.Goals as goal

pub returns-clause-grid : goal.returns-clause-grid
returns-clause-grid c = own_grid

pub returns-clause-pair : goal.returns-clause-pair
returns-clause-pair c = alike

pub returns-clause-founds : goal.returns-clause-founds
returns-clause-founds c = founds_on_both_sides

pub returns-clause-reports : goal.returns-clause-reports
returns-clause-reports c = reports_on_both_sides

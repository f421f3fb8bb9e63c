use Rattle.hyd_spec_open_ends.specs.OpenStandings.{initial_open_standing}
use Rattle.hyd_theorems_on_open_standings.proofs.StandingsAreFirm.{firm_at_start, firm_next, firm_along}
use Rattle.hyd_theorems_on_open_standings.proofs.StandingsByFlows.{firm-by-lead}
use Rattle.hyd_theorems_on_open_standings.proofs.standings.Goals as goal

pub returns-clause-start : goal.returns-clause-start
returns-clause-start c = firm_at_start

pub returns-clause-next : goal.returns-clause-next
returns-clause-next c = firm_next

pub returns-clause-leads : goal.returns-clause-leads
returns-clause-leads c = firm-by-lead

pub returns-clause-runs : goal.returns-clause-runs
returns-clause-runs c = λ project sound slack founds last run.
    firm_along project sound slack (initial_open_standing project) founds last run (firm_at_start project sound)

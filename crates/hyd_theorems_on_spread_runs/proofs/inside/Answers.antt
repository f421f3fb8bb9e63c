use Rattle.hyd_theorems_on_spread.proofs.GreaterSpreads.{history-wider, own-history}
use Rattle.hyd_theorems_on_spread_runs.proofs.HistoriesAlongRuns.{every_history}
use Rattle.hyd_theorems_on_spread_runs.proofs.inside.Goals as goal

pub returns-clause-inner : goal.returns-clause-inner
returns-clause-inner c = λ project sound inner outer inside is founds last run S some history within.
    every_history project sound outer is founds last run S some history
    (history-wider project sound inner outer inside S history within)

pub returns-clause-own : goal.returns-clause-own
returns-clause-own c = λ project sound spread is founds last run S some history own.
    every_history project sound spread is founds last run S some history
    (own-history project sound spread is S history own)

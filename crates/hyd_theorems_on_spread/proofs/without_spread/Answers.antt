use Rattle.hyd_theorems_on_spread.proofs.OwnNetwork.{grid-alone, grid-outermost}
use Rattle.hyd_theorems_on_spread.proofs.HistoriesAlone.{history-alone}
use Rattle.hyd_theorems_on_spread.proofs.NoSpread.{none-is-spread, none-is-inside}
use Rattle.hyd_theorems_on_spread.proofs.without_spread.Goals as goal

pub returns-clause-spread : goal.returns-clause-spread
returns-clause-spread c = none-is-spread

pub returns-clause-inside : goal.returns-clause-inside
returns-clause-inside c = none-is-inside

pub returns-clause-grids : goal.returns-clause-grids
returns-clause-grids c = λ project sound side time levels tanks links grid. (
  grid-alone project sound side time levels tanks links grid,
  grid-outermost project sound side time levels tanks links grid,
)

pub returns-clause-histories : goal.returns-clause-histories
returns-clause-histories c = λ project sound S periods history. history-alone project sound S periods history

use Rattle.hyd_theorems_on_inner_spreads.proofs.GridsOfSpreads.{pair-of}
use Rattle.hyd_theorems_on_inner_spreads.proofs.RecordsInside.{run-too}
use Rattle.hyd_theorems_on_inner_spreads.proofs.runs.Goals as goal

pub returns : goal.returns
returns c = λ project sound inner outer is wide inside alike emitters founds last run.
    run-too project sound inner outer is inside alike (pair-of project sound inner emitters) wide founds last run

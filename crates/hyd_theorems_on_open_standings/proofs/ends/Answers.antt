use Rattle.hyd_theorems_on_open_standings.proofs.StandingsAreFirm.{carried_there, level_holds, volume_there}
use Rattle.hyd_theorems_on_open_standings.proofs.ends.Goals as goal

pub returns-clause-carried : goal.returns-clause-carried
returns-clause-carried c = λ project sound grid standing found nested way ends reached arrives short long k tank at. (
  carried_there project sound grid standing found nested way ends reached arrives short long k tank at,
  (level_holds project sound grid standing found nested way ends reached arrives short long k tank at).inside,
)

pub returns-clause-volume : goal.returns-clause-volume
returns-clause-volume c = volume_there

use Rattle.hyd_theorems_on_histories.proofs.WatchedLevels.{level_may, must_level}
use Rattle.hyd_theorems_on_histories.proofs.levels.Goals as goal

pub returns-clause-may : goal.returns-clause-may
returns-clause-may c = level_may

pub returns-clause-must : goal.returns-clause-must
returns-clause-must c = must_level

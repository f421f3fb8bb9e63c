use Rattle.std.proofs.Common.{refl}
use Rattle.hyd_cases_of_runs.specs.VillageRun.{standing_0, standing_1, standing_2, standing_3, standing_4}
use Rattle.hyd_cases_of_runs.specs.Village.{usual}
use Rattle.hyd_cases_of_runs.proofs.VillageGrids.{grid_at}
use Rattle.hyd_cases_of_runs.proofs.village.grids.Goals as goal

pub returns-clause-start : goal.returns-clause-start
returns-clause-start c = refl

pub returns-clause-first : goal.returns-clause-first
returns-clause-first c = grid_at usual standing_0 _ _ _ _ refl refl refl refl

pub returns-clause-second : goal.returns-clause-second
returns-clause-second c = grid_at usual standing_1 _ _ _ _ refl refl refl refl

pub returns-clause-third : goal.returns-clause-third
returns-clause-third c = grid_at usual standing_2 _ _ _ _ refl refl refl refl

pub returns-clause-fourth : goal.returns-clause-fourth
returns-clause-fourth c = grid_at usual standing_3 _ _ _ _ refl refl refl refl

pub returns-clause-fifth : goal.returns-clause-fifth
returns-clause-fifth c = grid_at usual standing_4 _ _ _ _ refl refl refl refl

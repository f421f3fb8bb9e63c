use Rattle.std.proofs.Common.{refl}
use Rattle.hyd_cases_of_runs.specs.Village.{usual}
use Rattle.hyd_cases_of_runs.specs.VillageRun.{grid_0, grid_1, grid_2, grid_3, grid_4, row_0, row_1, row_2, row_3}
use Rattle.hyd_cases_of_runs.specs.VillageRun.{row_4}
use Rattle.hyd_cases_of_runs.proofs.VillageCertificates.{certificates}
use Rattle.hyd_cases_of_runs.proofs.village.certificates.Goals as goal

pub returns-clause-first : goal.returns-clause-first
returns-clause-first c = certificates usual grid_0 row_0 _ refl refl refl refl refl

pub returns-clause-second : goal.returns-clause-second
returns-clause-second c = certificates usual grid_1 row_1 _ refl refl refl refl refl

pub returns-clause-third : goal.returns-clause-third
returns-clause-third c = certificates usual grid_2 row_2 _ refl refl refl refl refl

pub returns-clause-fourth : goal.returns-clause-fourth
returns-clause-fourth c = certificates usual grid_3 row_3 _ refl refl refl refl refl

pub returns-clause-fifth : goal.returns-clause-fifth
returns-clause-fifth c = certificates usual grid_4 row_4 _ refl refl refl refl refl

-- Which of two runs is longer.
use Rattle.std.specs.Prelude.{List, [], ◌∷◌, ◌++◌}
use Rattle.hyd_spec.specs.ProgramTypes.{Project}
use Rattle.hyd_spec_reports.specs.PromisesOfRunsAndChecks.{Found, IsRun}

-- A run goes on by one more period.
pub record IsLonger (project : Project) (founds : List Found) : Type 0 where
  pub found : Found
  pub is_run : IsRun project (founds ++ (found ∷ [])) found.next

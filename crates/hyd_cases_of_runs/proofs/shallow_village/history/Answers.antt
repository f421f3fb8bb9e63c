use Rattle.std.proofs.Common.{refl}
use Rattle.hyd_cases_of_runs.proofs.ShallowHistory.{first, second, second_comes}
use Rattle.hyd_cases_of_runs.proofs.shallow_village.history.Goals as goal

pub returns : goal.returns
returns c = (
  record {
    at_time = refl;
    at_levels = refl;
    at_volumes = refl;
    tanks = refl;
    links = refl;
  },
  (first, (second_comes, (second, tt))),
)

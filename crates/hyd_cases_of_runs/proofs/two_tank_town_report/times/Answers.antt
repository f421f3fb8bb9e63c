use Rattle.std.proofs.Common.{ap}
use Rattle.hyd_cases_of_runs.proofs.two_tank_town_report.times.Goals as goal
use Rattle.hyd_cases_of_runs.proofs.TwoTankTownAsOneValue.{town_is}
use Rattle.std.specs.Prelude.{[], ◌∷◌, map}
use Rattle.hyd_spec_certificates.specs.PrintedIntervals.{is_report_time}

pub returns : goal.returns
returns c = λ project town. ap (λ project. map (is_report_time project) (0 ∷ 3600 ∷ 7200 ∷ 7313 ∷ 8640 ∷ 9720 ∷ 10080
    ∷ 10800 ∷ [])) (town_is town)

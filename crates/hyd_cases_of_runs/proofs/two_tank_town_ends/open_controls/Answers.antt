use Rattle.std.proofs.Common.{ap}
use Rattle.hyd_cases_of_runs.proofs.two_tank_town_ends.open_controls.Goals as goal
use Rattle.hyd_cases_of_runs.proofs.TwoTankTownAsOneValue.{town_is}
use Rattle.std.specs.Prelude.{pos, [], ◌∷◌, map}
use Rattle.hyd_spec_certificates.specs.Stops.{is_open_control}

pub returns-clause-decided : goal.returns-clause-decided
returns-clause-decided c = λ project town. ap (λ project. map (is_open_control (record {
  lo = pos 50000000000000;
  hi = pos 50000000000000;
} ∷ record { lo = pos 15000000000000; hi = pos 15000000000000 } ∷ []))
    project.controls.list) (town_is town)

pub returns-clause-both : goal.returns-clause-both
returns-clause-both c = λ project town. ap (λ project. map (is_open_control (record {
  lo = pos 49999999999999;
  hi = pos 50000000000000;
} ∷ record { lo = pos 15000000000000; hi = pos 15000000000001 } ∷ []))
    project.controls.list) (town_is town)

pub returns-clause-upper : goal.returns-clause-upper
returns-clause-upper c = λ project town. ap (λ project. map (is_open_control (record {
  lo = pos 49999999999990;
  hi = pos 50000000000000;
} ∷ record { lo = pos 15000000000000; hi = pos 15000000000000 } ∷ []))
    project.controls.list) (town_is town)

pub returns-clause-lower : goal.returns-clause-lower
returns-clause-lower c = λ project town. ap (λ project. map (is_open_control (record {
  lo = pos 49999999999990;
  hi = pos 49999999999999;
} ∷ record { lo = pos 15000000000000; hi = pos 15000000000010 } ∷ []))
    project.controls.list) (town_is town)

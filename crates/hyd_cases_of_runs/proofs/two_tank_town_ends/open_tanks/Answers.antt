use Rattle.std.proofs.Common.{ap}
use Rattle.hyd_cases_of_runs.proofs.two_tank_town_ends.open_tanks.Goals as goal
use Rattle.hyd_cases_of_runs.proofs.TwoTankTownAsOneValue.{town_is}
use Rattle.std.specs.Prelude.{pos, [], ◌∷◌}
use Rattle.hyd_spec_certificates.specs.Stops.{open_states}

pub returns-clause-decided : goal.returns-clause-decided
returns-clause-decided c = λ project town. ap (λ project. open_states project (record {
  lo = pos 50000000000000;
  hi = pos 50000000000000;
} ∷ record { lo = pos 15000000000000; hi = pos 15000000000000 } ∷ [])) (town_is town)

pub returns-clause-both : goal.returns-clause-both
returns-clause-both c = λ project town. ap (λ project. open_states project (record {
  lo = pos 49998475999999;
  hi = pos 49998476000000;
} ∷ record { lo = pos 15001524000000; hi = pos 15001524000001 } ∷ [])) (town_is town)

pub returns-clause-upper : goal.returns-clause-upper
returns-clause-upper c = λ project town. ap (λ project. open_states project (record {
  lo = pos 49998475999999;
  hi = pos 50000000000000;
} ∷ record { lo = pos 15000000000000; hi = pos 15001524000000 } ∷ [])) (town_is town)

pub returns-clause-lower : goal.returns-clause-lower
returns-clause-lower c = λ project town. ap (λ project. open_states project (record {
  lo = pos 49998476000000;
  hi = pos 50000000000000;
} ∷ record { lo = pos 15000000000000; hi = pos 15001524000001 } ∷ [])) (town_is town)

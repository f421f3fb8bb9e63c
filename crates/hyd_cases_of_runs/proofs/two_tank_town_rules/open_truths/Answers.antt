use Rattle.std.proofs.Common.{ap}
use Rattle.hyd_cases_of_runs.proofs.two_tank_town_rules.open_truths.Goals as goal
use Rattle.hyd_cases_of_runs.proofs.TwoTankTownAsOneValue.{town_is}
use Rattle.std.specs.Prelude.{pos, [], ◌∷◌, map}
use Rattle.hyd_spec_certificates.specs.Decided.{rule_truths}
use Rattle.hyd_cases_of_runs.specs.TwoTankTownPeriods.{standing_when_full, grid_when_full, row_when_full}

pub returns-clause-upper : goal.returns-clause-upper
returns-clause-upper c = λ project town. ap (λ project. map (rule_truths project grid_when_full
    (record standing_when_full {
      levels = record {
        lo = pos 47000000000000;
        hi = pos 49000000000000;
      } ∷ record { lo = pos 15000000000000; hi = pos 18000000000000 } ∷ [];
    }) row_when_full)
    (247 ∷ 967 ∷ 1327 ∷ [])) (town_is town)

pub returns-clause-lower : goal.returns-clause-lower
returns-clause-lower c = λ project town. ap (λ project. map (rule_truths project grid_when_full
    (record standing_when_full {
      levels = record {
        lo = pos 46000000000000;
        hi = pos 47000000000000;
      } ∷ record { lo = pos 18000000000000; hi = pos 20000000000000 } ∷ [];
    }) row_when_full)
    (247 ∷ 967 ∷ 1327 ∷ [])) (town_is town)

pub returns-clause-both : goal.returns-clause-both
returns-clause-both c = λ project town. ap (λ project. map (rule_truths project grid_when_full
    (record standing_when_full {
      levels = record {
        lo = pos 47000000000000;
        hi = pos 49000000000000;
      } ∷ record { lo = pos 18000000000000; hi = pos 20000000000000 } ∷ [];
    }) row_when_full)
    (247 ∷ 967 ∷ 1327 ∷ [])) (town_is town)

pub returns-clause-earlier : goal.returns-clause-earlier
returns-clause-earlier c = λ project town. ap (λ project. rule_truths project grid_when_full
    (record standing_when_full {
      time = 3600;
      levels = record {
        lo = pos 47000000000000;
        hi = pos 49000000000000;
      } ∷ record { lo = pos 15000000000000; hi = pos 18000000000000 } ∷ [];
    }) row_when_full 247)
    (town_is town)

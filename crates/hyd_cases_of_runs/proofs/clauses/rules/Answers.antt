use Rattle.std.proofs.Common.{ap}
use Rattle.hyd_cases_of_runs.proofs.clauses.rules.Goals as goal
use Rattle.hyd_cases_of_runs.proofs.HamletAsOneValue.{hamlet_is}
use Rattle.std.specs.Prelude.{pos, [], ◌∷◌, map}
use Rattle.hyd_spec_certificates.specs.Decided.{rule_truths}
use Rattle.hyd_cases_of_runs.specs.Hamlet.{grid_at_start}
use Rattle.hyd_cases_of_runs.specs.Clauses.{hamlet_row, hamlet_standing}

pub returns-clause-high : goal.returns-clause-high
returns-clause-high c = λ project hamlet. ap (λ project. map
    (λ level. rule_truths project grid_at_start (hamlet_standing level) (hamlet_row (record {
      lo = pos 396240000000001;
      hi = pos 396240000000002;
    })) 360)
    (record { lo = pos 30402181382335; hi = pos 30402182094386 } ∷ record {
      lo = pos 30222181382334;
      hi = pos 30222182094385;
    } ∷ record { lo = pos 30170045602735; hi = pos 30170046314786 }
    ∷ record { lo = pos 30170045602735; hi = pos 30170046314787 } ∷ [])) (hamlet_is hamlet)

pub returns-clause-edge : goal.returns-clause-edge
returns-clause-edge c = λ project hamlet. ap (λ project. map
    (λ level. rule_truths project grid_at_start (hamlet_standing level) (hamlet_row (record {
      lo = pos 396240000000000;
      hi = pos 396240000000001;
    })) 360)
    (record { lo = pos 30402181382335; hi = pos 30402182094386 } ∷ record {
      lo = pos 30222181382334;
      hi = pos 30222182094385;
    } ∷ record { lo = pos 30170045602735; hi = pos 30170046314786 }
    ∷ record { lo = pos 30170045602735; hi = pos 30170046314787 } ∷ [])) (hamlet_is hamlet)

pub returns-clause-low : goal.returns-clause-low
returns-clause-low c = λ project hamlet. ap (λ project. map (λ level. rule_truths project grid_at_start
    (hamlet_standing level) (hamlet_row (record {
      lo = pos 395543595661204;
      hi = pos 395543595661204;
    })) 360) (record { lo = pos 30402181382335; hi = pos 30402182094386 }
    ∷ record { lo = pos 30222181382334; hi = pos 30222182094385 } ∷ record {
      lo = pos 30170045602735;
      hi = pos 30170046314786;
    } ∷ record { lo = pos 30170045602735; hi = pos 30170046314787 } ∷ [])) (hamlet_is hamlet)

use Rattle.std.proofs.Common.{ap}
use Rattle.hyd_cases_of_runs.proofs.clauses.tank_pounds.Goals as goal
use Rattle.hyd_cases_of_runs.proofs.HamletAsOneValue.{hamlet_is}
use Rattle.std.specs.Prelude.{map}
use Rattle.hyd_spec.specs.ProgramTypes.{Less, NotMore, More, NotLess, Pressure}
use Rattle.hyd_cases_of_runs.specs.Hamlet.{pounds_4_3, row_at_start}
use Rattle.hyd_cases_of_runs.specs.Clauses.{hamlet_truth, hamlet_standing, levels_about_4_3}

pub returns-clause-less : goal.returns-clause-less
returns-clause-less c = λ project hamlet. ap (λ project. map (λ level. hamlet_truth project (hamlet_standing level)
    row_at_start (Pressure 2) Less pounds_4_3) levels_about_4_3) (hamlet_is hamlet)

pub returns-clause-at_most : goal.returns-clause-at_most
returns-clause-at_most c = λ project hamlet. ap (λ project. map (λ level. hamlet_truth project (hamlet_standing level)
    row_at_start (Pressure 2) NotMore pounds_4_3) levels_about_4_3) (hamlet_is hamlet)

pub returns-clause-more : goal.returns-clause-more
returns-clause-more c = λ project hamlet. ap (λ project. map (λ level. hamlet_truth project (hamlet_standing level)
    row_at_start (Pressure 2) More pounds_4_3) levels_about_4_3) (hamlet_is hamlet)

pub returns-clause-at_least : goal.returns-clause-at_least
returns-clause-at_least c = λ project hamlet. ap (λ project. map
    (λ level. hamlet_truth project (hamlet_standing level) row_at_start (Pressure 2) NotLess pounds_4_3)
    levels_about_4_3) (hamlet_is hamlet)

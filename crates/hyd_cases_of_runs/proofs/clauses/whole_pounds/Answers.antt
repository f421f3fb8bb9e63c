use Rattle.std.proofs.Common.{ap}
use Rattle.hyd_cases_of_runs.proofs.clauses.whole_pounds.Goals as goal
use Rattle.hyd_cases_of_runs.proofs.HamletAsOneValue.{hamlet_is}
use Rattle.std.specs.Prelude.{map}
use Rattle.hyd_spec.specs.ProgramTypes.{Less, NotMore, More, NotLess, Pressure}
use Rattle.hyd_cases_of_runs.specs.Hamlet.{pounds_12_999}
use Rattle.hyd_cases_of_runs.specs.Hamlet.{standing_at_start as hamlet_start}
use Rattle.hyd_cases_of_runs.specs.Clauses.{hamlet_truth, hamlet_row, heads_about_12_999}

pub returns-clause-less : goal.returns-clause-less
returns-clause-less c = λ project hamlet. ap (λ project. map
    (λ heads. hamlet_truth project hamlet_start (hamlet_row heads) (Pressure 0) Less pounds_12_999)
    heads_about_12_999) (hamlet_is hamlet)

pub returns-clause-at_most : goal.returns-clause-at_most
returns-clause-at_most c = λ project hamlet. ap (λ project. map
    (λ heads. hamlet_truth project hamlet_start (hamlet_row heads) (Pressure 0) NotMore pounds_12_999)
    heads_about_12_999) (hamlet_is hamlet)

pub returns-clause-more : goal.returns-clause-more
returns-clause-more c = λ project hamlet. ap (λ project. map
    (λ heads. hamlet_truth project hamlet_start (hamlet_row heads) (Pressure 0) More pounds_12_999)
    heads_about_12_999) (hamlet_is hamlet)

pub returns-clause-at_least : goal.returns-clause-at_least
returns-clause-at_least c = λ project hamlet. ap (λ project. map
    (λ heads. hamlet_truth project hamlet_start (hamlet_row heads) (Pressure 0) NotLess pounds_12_999)
    heads_about_12_999) (hamlet_is hamlet)

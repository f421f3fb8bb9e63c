use Rattle.std.proofs.Common.{refl}
use Rattle.hyd_cases_of_definitions.proofs.texts.reports.Goals as goal
use Rattle.std.specs.Fmt.{digits}

pub returns-clause-done : goal.returns-clause-done
unfolding digits
returns-clause-done c = refl

pub returns-clause-partial : goal.returns-clause-partial
unfolding digits
returns-clause-partial c = refl

pub returns-clause-report : goal.returns-clause-report
unfolding digits
returns-clause-report c = λ project. refl

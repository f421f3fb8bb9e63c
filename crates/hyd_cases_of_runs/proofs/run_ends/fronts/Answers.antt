use Rattle.std.proofs.Common.{refl}
use Rattle.std.specs.Fmt.{digits}
use Rattle.hyd_num.specs.PrintedDecimals.{fixed_point}
use Rattle.hyd_cases_of_runs.proofs.run_ends.fronts.Goals as goal

pub returns-clause-first_record : goal.returns-clause-first_record
unfolding digits
returns-clause-first_record c = refl

pub returns-clause-first_lines : goal.returns-clause-first_lines
unfolding digits fixed_point
returns-clause-first_lines c = refl

pub returns-clause-certificate : goal.returns-clause-certificate
unfolding digits
returns-clause-certificate c = refl

pub returns-clause-report : goal.returns-clause-report
unfolding digits fixed_point
returns-clause-report c = refl

pub returns-clause-stopped_certificate : goal.returns-clause-stopped_certificate
unfolding digits
returns-clause-stopped_certificate c = refl

pub returns-clause-stopped_report : goal.returns-clause-stopped_report
unfolding digits fixed_point
returns-clause-stopped_report c = refl
